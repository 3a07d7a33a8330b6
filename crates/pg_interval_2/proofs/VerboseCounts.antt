-- A text in `postgres_verbose` style has one list of counts.
use Rattle.std.proofs.Common.{◌≡◌, ℕ, true, false, List, [], ◌∷◌, codes, refl, sym, ◌∙◌, ap, ap₂, subst, inl, inr, arith}
use Rattle.scan_core.specs.Blanks.{words}
use Rattle.scan_core.specs.Count.{Count}
use Rattle.scan_core.specs.Number.{IsNumber}
use Rattle.pg_interval_2.specs.declared.reading.unit_names.NameSet.TheVariants.{Verbose}
use Rattle.pg_interval_2.specs.inside.ItemReading.{Spelled, Unspelled, verdict}
use Rattle.pg_interval_2.specs.Postgres.{AreItems}
use Rattle.pg_interval_2.specs.Turned.{turned_counts}
use Rattle.pg_interval_2.specs.UnitNames.{verbose_names}
use Rattle.pg_interval_2.specs.Verbose.{IsFramed, IsVerbose, EndsInAgo}
use Rattle.pg_interval_2.specs.inside.VerboseParts.{IsBody}
use Rattle.pg_interval_2.proofs.AgoEnds.{no_ago}
use Rattle.pg_interval_2.proofs.Answering.{HasOneList}
use Rattle.pg_interval_2.proofs.BadNames.{items_verdict, one_counts}
use Rattle.pg_interval_2.proofs.Frames.{one_frame, whole_words}
use Rattle.pg_interval_2.proofs.UnitNameFacts.{set_names}
use Rattle.pg_interval_2.proofs.Verdicts.{AreNames, number_kind, verdict-word}
use Rattle.pg_interval_2.proofs.WrittenNumbers.{IsNumber-whole}

-- the names of the style are letters
pub are_names : AreNames verbose_names
are_names = set_names Verbose

-- ---- `0` is no item

zero_number : IsNumber true false (codes "0") [] (codes "0")
zero_number = IsNumber-whole true false (codes "0") (omega arith, tt) (omega arith)

pub zero_verdict : verdict verbose_names [] 0 (codes "0" ∷ []) ≡ Unspelled
zero_verdict = let kind = number_kind false (codes "0") [] (codes "0") zero_number in
    verdict-word verbose_names [] 0 (codes "0") [] ∙ rw kind refl

zero_alone : (all : List (List ℕ)) (counts : List Count) → all ≡ codes "0" ∷ [] → AreItems verbose_names all counts → ⊥
zero_alone all counts zero items =
    let clash : Unspelled ≡ Spelled counts = sym zero_verdict ∙ ap (verdict verbose_names [] 0) (sym zero)
    ∙ items_verdict verbose_names are_names all counts items in cc

one_body : (x y : List ℕ) (a b : List Count) → words x ≡ words y → IsBody x a → IsBody y b → a ≡ b
one_body x y a b same (inl h) (inl k) = h.1 ∙ sym k.1
one_body x y a b same (inl h) (inr k) = absurd (zero_alone (words y) b (sym same ∙ h.0) k)
one_body x y a b same (inr h) (inl k) = absurd (zero_alone (words x) a (same ∙ k.0) h)
one_body x y a b same (inr h) (inr k) = one_counts verbose_names are_names (words y) a b
    (subst (λ (l : List (List ℕ)). AreItems verbose_names l a) same h) k

-- ---- the text

pub whole_text : (text : List ℕ) (counts : List Count) (h : IsVerbose text counts) → h.ago ≡ false → EndsInAgo text → ⊥
whole_text text counts h none = no_ago text h.before h.body h.body_counts (subst (IsFramed text h.before h.body) none h.framed) h.spelled

pub one_list : HasOneList IsVerbose
one_list text a b ha hb =
    let same = one_frame text ha.before hb.before ha.body hb.body ha.ago hb.ago ha.framed hb.framed (whole_text text a ha)
    (whole_text text b hb) in
    let bodies : words ha.body ≡ words hb.body =
    sym (whole_words ha.ago ha.body ha.framed.after ha.framed.blank_after) ∙ ap words same.whole
    ∙ whole_words hb.ago hb.body hb.framed.after hb.framed.blank_after in
    ha.counted ∙ ap₂ turned_counts same.ago (one_body ha.body hb.body ha.body_counts hb.body_counts bodies ha.spelled hb.spelled)
    ∙ sym hb.counted
