-- How bytes are divided into signs: longest runs of letters, longest runs of digits, and single bytes, with blanks between. Assumes nothing.
use Rattle.std.specs.Prelude.{◌≡◌, ℕ, suc, ◌+◌, Bool, true, false, ◌↔◌, List, [], ◌∷◌, ◌++◌, length}
use Rattle.syntax.specs.Signs.{word, digits, mark, Placed, blank, letter, digit, begins, signs_of}

-- bytes of one kind
abbrev pub All : (ℕ → Bool) → List ℕ → Type 0
All kind [] = Unit {0}
All kind (b ∷ w) = (kind b ≡ true) × All kind w

-- a run that is not empty, of bytes of one kind, and goes on as long as it can before the text s
pub record Run (kind : ℕ → Bool) (w s : List ℕ) : Type 0 where
  pub some : begins kind w ≡ true
  pub all : All kind w
  pub longest : begins kind s ≡ false

-- the text, whose first byte has the place p, is divided into these signs
pub data Divided : ℕ → List ℕ → List Placed → Type 0 where
  at_end : {p : ℕ} → Divided p [] []
  at_blank : {p b : ℕ} {s : List ℕ} {signs : List Placed} → blank b ≡ true → Divided (suc p) s signs → Divided p (b ∷ s) signs
  at_word : {p : ℕ} (w : List ℕ) {s : List ℕ} {signs : List Placed} → Run letter w s → Divided (p + length w) s signs → Divided p (w ++ s) ((p, word w) ∷ signs)
  at_digits : {p : ℕ} (w : List ℕ) {s : List ℕ} {signs : List Placed} → Run digit w s → Divided (p + length w) s signs → Divided p (w ++ s) ((p, digits w) ∷ signs)
  at_mark : {p b : ℕ} {s : List ℕ} {signs : List Placed} → blank b ≡ false → letter b ≡ false → digit b ≡ false → Divided (suc p) s signs → Divided p (b ∷ s) ((p, mark b) ∷ signs)

abbrev pub DividedExactly : Type 0
DividedExactly = (text : List ℕ) (signs : List Placed) → (signs_of text ≡ signs) ↔ Divided 0 text signs
