-- The longest prefix of bytes in a grammar. A grammar is a relation between a whole text and its value; nothing here
-- goes by an order of alternatives.
use Rattle.std.specs.Prelude.{◌≡◌, ℕ, ◌≤◌, List, ◌++◌, length, Result, IfOk, IfErr}

-- the bytes begin with a text of this value, and the rest follows it
abbrev pub Begins : {V : Type 0} → (List ℕ → V → Type 0) → List ℕ → V → List ℕ → Type 0
Begins Is bytes value rest = (text : List ℕ) × Is text value × (bytes ≡ text ++ rest)

-- every text of the grammar in front leaves this rest or more: none is longer
abbrev pub NoneLonger : {V : Type 0} → (List ℕ → V → Type 0) → List ℕ → List ℕ → Type 0
NoneLonger {V} Is bytes rest =
    (value : V) (left : List ℕ) → Begins Is bytes value left → length rest ≤ length left

-- no text of the grammar is in front
abbrev pub NoneBegins : {V : Type 0} → (List ℕ → V → Type 0) → List ℕ → Type 0
NoneBegins {V} Is bytes = (value : V) (left : List ℕ) → Begins Is bytes value left → ⊥

-- the longest text of the grammar in front has this value, whatever follows it
abbrev pub BeginsLongest : {V : Type 0} → (List ℕ → V → Type 0) → List ℕ → V → Type 0
BeginsLongest Is bytes value =
    (rest : List ℕ) × Begins Is bytes value rest × NoneLonger Is bytes rest

-- what is answered of bytes: the value of their longest text of the grammar in front, or that there is none
abbrev pub AnswersLongest : {V E : Type 0} → (List ℕ → V → Type 0) → List ℕ → Result V E → Type 0
AnswersLongest Is bytes result =
    IfOk result (BeginsLongest Is bytes) × IfErr result (λ e. NoneBegins Is bytes)
