-- A text in one of the styles is made of their alphabet.
use Rattle.std.proofs.Common.{◌≡◌, ◌⊎◌, ℕ, Bool, true, false, cond, IsTrue, ◌==◌, List, [], ◌∷◌, ◌++◌, codes, Some, refl, sym, subst, inl}
use Rattle.std.proofs.Common.{inr, arith}
use Rattle.std.proofs.lemmas.Bool.{and_parts, or_left, or_right}
use Rattle.std.proofs.lemmas.Bool.Decides.{nat_tests}
use Rattle.std.specs.Char.{is_ascii_digit}
use Rattle.std.specs.List.{list_all}
use Rattle.scan_core.specs.Blanks.{is_blank, words}
use Rattle.scan_core.specs.Count.{Count}
use Rattle.scan_core.specs.Digits.{AreDigits}
use Rattle.scan_core.specs.Join.{IsJoin}
use Rattle.std.specs.List.{onto_first}
use Rattle.scan_core.specs.Number.{IsSign, IsFraction, IsNumber}
use Rattle.scan_core.specs.declared.share.Unit.{Unit as TimeUnit}
use Rattle.scan_core.specs.declared.share.Unit.TheVariants.{Year, Month, Week, Day, Hour, Minute, Second}
use Rattle.pg_interval_2.specs.Alphabet.{is_in_alphabet}
use Rattle.pg_interval_2.specs.Clock.{IsClock}
use Rattle.pg_interval_2.specs.Iso.{unit_in}
use Rattle.pg_interval_2.proofs.IsoWhole.{either, strict_either}
use Rattle.pg_interval_2.specs.inside.IsoShapes.{date_unit, time_unit, ArePairs, IsDateAlone, IsDateAndTime, IsIsoEither}
use Rattle.pg_interval_2.specs.inside.IsoShapes.{IsStrictEither}
use Rattle.pg_interval_2.specs.Postgres.{IsItem}
use Rattle.pg_interval_2.specs.inside.PostgresParts.{IsPostgres}
use Rattle.pg_interval_2.specs.Sql.{IsSignOr, IsYearMonth, IsDays, IsSqlTime, AreSqlWords, IsSql}
use Rattle.pg_interval_2.specs.inside.SqlParts.{HasSeconds}
use Rattle.pg_interval_2.specs.Styles.{Shape}
use Rattle.pg_interval_2.specs.UnitNames.{postgres_names, verbose_names}
use Rattle.pg_interval_2.specs.Verbose.{IsVerbose}
use Rattle.pg_interval_2.specs.inside.VerboseParts.{ago_or_none, IsBody}
use Rattle.pg_interval_2.specs.declared.style.Style.{Style}
use Rattle.pg_interval_2.specs.declared.style.Style.TheVariants.{Iso, Postgres, Verbose, Sql, IsoStrict}
use Rattle.pg_interval_2.proofs.EachByte.{Each, EachWord, each-append, each_word-append, each-weaker, each-digits}
use Rattle.pg_interval_2.proofs.UnitNameFacts.{chosen_unit}
use Rattle.pg_interval_2.proofs.UnitsApart.{contains_passes}
use Rattle.pg_interval_2.proofs.Verdicts.{Names}

abbrev In : List ℕ → Type 0
In bytes = Each is_in_alphabet bytes

abbrev AllIn : List (List ℕ) → Type 0
AllIn all = EachWord is_in_alphabet all

bytes_in : (bytes : List ℕ) → list_all is_in_alphabet bytes ≡ true → In bytes
bytes_in bytes h = record { passes = h }

append : (a b : List ℕ) → In a → In b → In (a ++ b)
append a b h k = each-append is_in_alphabet a b h k

joined : (whole a b : List ℕ) → whole ≡ a ++ b → In a → In b → In whole
joined whole a b is h k = subst In (sym is) (append a b h k)

same : (whole bytes : List ℕ) → whole ≡ bytes → list_all is_in_alphabet bytes ≡ true → In whole
same whole bytes is h = subst In (sym is) (bytes_in bytes h)

-- ---- numbers

blank_in : (b : ℕ) → is_blank b ≡ true → is_in_alphabet b ≡ true
blank_in b h = or_left (is_blank b) _ h

blanks_in : (bs : List ℕ) → list_all is_blank bs ≡ true → In bs
blanks_in bs h = bytes_in bs (each-weaker is_blank is_in_alphabet blank_in bs h)

digit_in : (d : ℕ) → is_ascii_digit d ≡ true → is_in_alphabet d ≡ true
digit_in d h = or_right (is_blank d) _ (or_left (is_ascii_digit d) _ h)

digits_in : (ds : List ℕ) → AreDigits ds → In ds
digits_in ds h = each-digits is_in_alphabet digit_in ds h

sign_in : (plus negative : Bool) (sign : List ℕ) → IsSign plus negative sign → In sign
sign_in plus true sign h = same sign (codes "-") h refl
sign_in plus false sign (inl h) = same sign [] h refl
sign_in plus false sign (inr h) = same sign (codes "+") h.1 refl

point : In (codes ".")
point = bytes_in (codes ".") refl

colon : In (codes ":")
colon = bytes_in (codes ":") refl

fraction_in : (fraction tail : List ℕ) → IsFraction fraction tail → In tail
fraction_in fraction tail (inl h) = same tail [] h.1 refl
fraction_in fraction tail (inr h) = joined tail (codes ".") fraction h.1 point (digits_in fraction h.0)

number_in : (plus negative : Bool) (whole fraction word : List ℕ) → IsNumber plus negative whole fraction word → In word
number_in plus negative whole fraction word h =
    joined word h.sign (whole ++ h.tail) h.joined (sign_in plus negative h.sign h.signed)
    (append whole h.tail (digits_in whole h.digits) (fraction_in fraction h.tail h.point))

clock_in : (word : List ℕ) (counts : List Count) → IsClock word counts → In word
clock_in word counts h =
    let behind_minutes = append h.seconds h.tail (digits_in h.seconds h.second_field.1) (fraction_in h.fraction h.tail h.point) in
    let with_colon = append (codes ":") (h.seconds ++ h.tail) colon behind_minutes in
    let minutes = append h.minutes (codes ":" ++ (h.seconds ++ h.tail)) (digits_in h.minutes h.minute_field.1) with_colon in
    let behind_hours : List ℕ = h.minutes ++ (codes ":" ++ (h.seconds ++ h.tail)) in
    let hours = append h.hours (codes ":" ++ behind_hours) (digits_in h.hours h.hour_field.1)
    (append (codes ":") behind_hours colon minutes) in
    joined word h.sign (h.hours ++ (codes ":" ++ behind_hours)) h.joined (sign_in true h.negative h.sign h.signed) hours

-- ---- the ISO style

designator : (letter k : ℕ) → list_all is_in_alphabet (k ∷ []) ≡ true → (letter == k) ≡ true → In (letter ∷ [])
designator letter k h equal = let is : letter ≡ k = grind (arith, nat_tests) in
    subst (λ (l : ℕ). In (l ∷ [])) (sym is) (bytes_in (k ∷ []) h)

date_letter : (letter : ℕ) (unit : TimeUnit) → date_unit letter ≡ Some unit → In (letter ∷ [])
date_letter letter unit h =
    chosen_unit (letter == 89) unit Year _ h (designator letter 89 refl) (λ h.
    chosen_unit (letter == 77) unit Month _ h (designator letter 77 refl) (λ h.
    chosen_unit (letter == 87) unit Week _ h (designator letter 87 refl) (λ h.
    chosen_unit (letter == 68) unit Day _ h (designator letter 68 refl) (λ h.
    chosen_unit (letter == 72) unit Hour _ h (designator letter 72 refl) (λ h. cc)))))

time_letter : (letter : ℕ) (unit : TimeUnit) → time_unit letter ≡ Some unit → In (letter ∷ [])
time_letter letter unit h =
    chosen_unit (letter == 89) unit Year _ h (designator letter 89 refl) (λ h.
    chosen_unit (letter == 77) unit Minute _ h (designator letter 77 refl) (λ h.
    chosen_unit (letter == 87) unit Week _ h (designator letter 87 refl) (λ h.
    chosen_unit (letter == 68) unit Day _ h (designator letter 68 refl) (λ h.
    chosen_unit (letter == 72) unit Hour _ h (designator letter 72 refl) (λ h.
    chosen_unit (letter == 83) unit Second _ h (designator letter 83 refl) (λ h. cc))))))

letter_in : (behind : Bool) (letter : ℕ) (unit : TimeUnit) → unit_in behind letter ≡ Some unit → In (letter ∷ [])
letter_in false letter unit h = date_letter letter unit h
letter_in true letter unit h = time_letter letter unit h

pairs_in : (behind : Bool) (text : List ℕ) (counts : List Count) → ArePairs (unit_in behind) text counts → In text
pairs_in behind text [] h = same text [] h refl
pairs_in behind text (c ∷ cs) h =
    let pair = h.2 in
    let number = number_in false c.negative c.whole c.fraction pair.number pair.digits in
    let piece = joined h.0 pair.number (pair.letter ∷ []) pair.joined number (letter_in behind pair.letter c.unit pair.unit) in
    joined text h.0 h.1 h.4 piece (pairs_in behind h.1 cs h.3)

date_in : (text : List ℕ) (counts : List Count) → IsDateAlone unit_in text counts → In text
date_in text counts h = joined text (codes "P") h.0 h.3 (bytes_in (codes "P") refl) (pairs_in false h.0 counts h.1)

date_and_time_in : (text : List ℕ) (counts : List Count) → IsDateAndTime unit_in text counts → In text
date_and_time_in text counts h =
    let time = append (codes "T") h.time (bytes_in (codes "T") refl) (pairs_in true h.time h.time_counts h.times) in
    let both_parts = append h.date (codes "T" ++ h.time) (pairs_in false h.date h.date_counts h.dates) time in
    joined text (codes "P") (h.date ++ (codes "T" ++ h.time)) h.spelled (bytes_in (codes "P") refl) both_parts

iso_in : (text : List ℕ) (counts : List Count) → IsIsoEither text counts → In text
iso_in text counts (inl h) = date_in text counts h
iso_in text counts (inr h) = date_and_time_in text counts h

strict_in : (text : List ℕ) (counts : List Count) → IsStrictEither text counts → In text
strict_in text counts (inl h) = date_in text counts h.0
strict_in text counts (inr h) = date_and_time_in text counts h.0

-- ---- words

first_in : (b : ℕ) (bs : List ℕ) → In (b ∷ bs) → (is_in_alphabet b ≡ true) × In bs
first_in b bs h = let parts = and_parts (is_in_alphabet b) (list_all is_in_alphabet bs) h.passes in (parts.0, bytes_in bs parts.1)

one_word : (t : Bool) (b : ℕ) → (t ≡ true → is_in_alphabet b ≡ true) → AllIn (cond t [] ((b ∷ []) ∷ [])) → In (b ∷ [])
one_word true b blank h = let in_blank = blank refl in bytes_in (b ∷ []) (rw in_blank refl)
one_word false b blank h = h.0

next_word : (t u : Bool) (b : ℕ) (ws : List (List ℕ)) → (t ≡ true → is_in_alphabet b ≡ true)
    → AllIn (cond t ws (cond u ((b ∷ []) ∷ ws) (onto_first b ws))) → (is_in_alphabet b ≡ true) × AllIn ws
next_word true u b ws blank h = (blank refl, h)
next_word false true b ws blank h = ((first_in b [] h.0).0, h.1)
next_word false false b [] blank h = ((first_in b [] h.0).0, tt)
next_word false false b (w ∷ ws) blank h = let first = first_in b w h.0 in (first.0, (first.1, h.1))

-- what stands between words is blank
words_in : (text : List ℕ) → AllIn (words text) → In text
words_in [] h = bytes_in [] refl
words_in (b ∷ []) h = one_word (is_blank b) b (blank_in b) h
words_in (b ∷ c ∷ bs) h =
    let parts = next_word (is_blank b) (is_blank c) b (words (c ∷ bs)) (blank_in b) h in
    let first = parts.0 in
    let rest = (words_in (c ∷ bs) parts.1).passes in
    bytes_in (b ∷ c ∷ bs) (rw (first, rest) refl)

-- ---- items

abbrev AreIn : Names → Type 0
AreIn names = (unit : TimeUnit) → IsTrue (list_all (λ name. list_all is_in_alphabet name) (names unit))

postgres_names_in : AreIn postgres_names
postgres_names_in Year = refl
postgres_names_in Month = refl
postgres_names_in Week = refl
postgres_names_in Day = refl
postgres_names_in Hour = refl
postgres_names_in Minute = refl
postgres_names_in Second = refl

verbose_names_in : AreIn verbose_names
verbose_names_in Year = refl
verbose_names_in Month = refl
verbose_names_in Week = refl
verbose_names_in Day = refl
verbose_names_in Hour = refl
verbose_names_in Minute = refl
verbose_names_in Second = refl

spelled_in : (item : List (List ℕ)) (number name : List ℕ) → In number → In name
    → ((item ≡ number ∷ name ∷ []) ⊎ (item ≡ (number ++ name) ∷ []))
    → AllIn item
spelled_in item number name n m (inl e) = subst AllIn (sym e) (n, (m, tt))
spelled_in item number name n m (inr e) = subst AllIn (sym e) (append number name n m, tt)

item_in : (names : Names) → AreIn names → (item : List (List ℕ)) (counts : List Count) → IsItem names item counts → AllIn item
item_in names all item counts (inl h) =
    let c = h.0 in
    let named = h.1 in
    let name = contains_passes (λ name. list_all is_in_alphabet name) (names c.unit) named.name (all c.unit) named.unit in
    spelled_in item named.number named.name (number_in true c.negative c.whole c.fraction named.number named.digits)
    (bytes_in named.name name) named.spelled
item_in names all item counts (inr h) = subst AllIn (sym h.2) (clock_in h.0 counts h.1, tt)

items_in : (names : Names) → AreIn names → (all : List (List ℕ)) (items : List (List Count)) → IsJoin (IsItem names) all items → AllIn all
items_in names names_in all [] h = subst AllIn (sym h) tt
items_in names names_in all (x ∷ xs) h =
    subst AllIn (sym h.4) (each_word-append is_in_alphabet h.0 h.1 (item_in names names_in h.0 x h.2) (items_in names names_in h.1 xs h.3))

postgres_in : (text : List ℕ) (counts : List Count) → IsPostgres text counts → In text
postgres_in text counts h = words_in text (items_in postgres_names postgres_names_in (words text) h.0 h.1)

body_in : (body : List ℕ) (counts : List Count) → IsBody body counts → In body
body_in body counts (inl h) = words_in body (subst AllIn (sym h.0) (bytes_in (codes "0") refl, tt))
body_in body counts (inr h) = words_in body (items_in verbose_names verbose_names_in (words body) h.0 h.1)

ago_in : (ago : Bool) → In (ago_or_none ago)
ago_in true = bytes_in (codes "ago") refl
ago_in false = bytes_in [] refl

verbose_in : (text : List ℕ) (counts : List Count) → IsVerbose text counts → In text
verbose_in text counts h =
    let frame = h.framed in
    let end = append (ago_or_none h.ago) frame.after (ago_in h.ago) (blanks_in frame.after frame.blank_after) in
    let body = append h.body (ago_or_none h.ago ++ frame.after) (body_in h.body h.body_counts h.spelled) end in
    let behind : List ℕ = h.body ++ (ago_or_none h.ago ++ frame.after) in
    let framed = append (codes "@") behind (bytes_in (codes "@") refl) body in
    joined text h.before (codes "@" ++ behind) frame.joined (blanks_in h.before frame.blank_before) framed

-- ---- the SQL style

word_sign_in : (default negative : Bool) (sign : List ℕ) → IsSignOr default negative sign → In sign
word_sign_in default true sign (inl h) = same sign (codes "-") h refl
word_sign_in default true sign (inr h) = same sign [] h.0 refl
word_sign_in default false sign (inl h) = same sign (codes "+") h refl
word_sign_in default false sign (inr h) = same sign [] h.0 refl

year_month_in : (word : List ℕ) (counts : List Count) → IsYearMonth word counts → In word
year_month_in word counts h =
    let months = append (codes "-") h.months (bytes_in (codes "-") refl) (digits_in h.months h.month_field.1) in
    let years = append h.years (codes "-" ++ h.months) (digits_in h.years h.year_field.1) months in
    joined word h.sign (h.years ++ (codes "-" ++ h.months)) h.joined (word_sign_in false h.negative h.sign h.signed) years

days_in : (negative : Bool) (word : List ℕ) (counts : List Count) → IsDays negative word counts → In word
days_in negative word counts h = joined word h.sign h.days h.joined (word_sign_in false negative h.sign h.signed)
    (digits_in h.days h.day_field.1)

seconds_in : (negative : Bool) (piece : List ℕ) (counts : List Count) → HasSeconds negative piece counts → In piece
seconds_in negative piece counts (inl h) = same piece [] h.0 refl
seconds_in negative piece counts (inr h) =
    joined piece (codes ":") (h.seconds ++ h.tail) h.joined colon
    (append h.seconds h.tail (digits_in h.seconds h.second_field.1) (fraction_in h.fraction h.tail h.point))

time_in : (default : Bool) (word : List ℕ) (counts : List Count) → IsSqlTime default word counts → In word
time_in default word counts h =
    let minutes = append h.minutes h.piece (digits_in h.minutes h.minute_field.1)
    (seconds_in h.negative h.piece h.second_counts h.seconds) in
    let with_colon = append (codes ":") (h.minutes ++ h.piece) colon minutes in
    let hours = append h.hours (codes ":" ++ (h.minutes ++ h.piece)) (digits_in h.hours h.hour_field.1) with_colon in
    joined word h.sign (h.hours ++ (codes ":" ++ (h.minutes ++ h.piece))) h.joined (word_sign_in default h.negative h.sign h.signed) hours

sql_words_in : (all : List (List ℕ)) (counts : List Count) → AreSqlWords all counts → AllIn all
sql_words_in [] counts h = absurd h
sql_words_in (word ∷ []) counts (inl h) = (year_month_in word counts h, tt)
sql_words_in (word ∷ []) counts (inr h) = (time_in false word counts h, tt)
sql_words_in (a ∷ b ∷ []) counts h = (days_in h.0 a h.1 h.3, (time_in h.0 b h.2 h.4, tt))
sql_words_in (a ∷ b ∷ c ∷ []) counts h =
    (year_month_in a h.1 h.4, (days_in h.0 b h.2 h.5, (time_in false c h.3 h.6, tt)))
sql_words_in (a ∷ b ∷ c ∷ d ∷ more) counts h = absurd h

sql_in : (text : List ℕ) (counts : List Count) → IsSql text counts → In text
sql_in text counts (inl h) = same text (codes "0") h.0 refl
sql_in text counts (inr h) = words_in text (sql_words_in (words text) counts h)

pub in_alphabet : (style : Style) (text : List ℕ) (counts : List Count) → Shape style text counts → IsTrue (list_all is_in_alphabet text)
in_alphabet Iso text counts h = (iso_in text counts (either text counts h)).passes
in_alphabet Postgres text counts h = (postgres_in text counts h).passes
in_alphabet Verbose text counts h = (verbose_in text counts h).passes
in_alphabet Sql text counts h = (sql_in text counts h).passes
in_alphabet IsoStrict text counts h = (strict_in text counts (strict_either text counts h)).passes
