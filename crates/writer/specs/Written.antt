-- What text leaves in a buffer, and lists as text. Assumes nothing.
use Rattle.std.specs.Prelude.{◌≡◌, ℕ, ◌+◌, ◌-◌, ◌^◌, ◌<◌, ◌≤◌, min, List, [], ◌∷◌, ◌++◌, length, take, drop, Ok, Err, Result}
use Rattle.machine.specs.declared.reasons.Reason.{Reason}
use Rattle.machine.specs.declared.reasons.Reason.TheVariants.{ShortBuffer}
use Rattle.writer.specs.declared.Writer.{Writer}

-- a buffer with text laid over it from a place on
abbrev pub laid : List ℕ → ℕ → List ℕ → List ℕ
laid old at bs = take at old ++ (bs ++ drop (at + length bs) old)

-- bs is put into old from at on: past is where it ends. The text stands there if it fits; else as much of it as fits does
-- (a buffer has fewer than 2 ^ 63 bytes)
pub record Puts (old : List ℕ) (at : ℕ) (bs : List ℕ) (new : List ℕ) (past : ℕ) : Type 0 where
  pub size : length new ≡ length old
  pub end : at < 2 ^ 64 → past ≡ min (at + length bs) (2 ^ 64 - 1)
  pub bytes : at + length bs < 2 ^ 64 → at + length bs ≤ length old → new ≡ laid old at bs
  pub cut : at < 2 ^ 64 → length old < 2 ^ 63 → length old < at + length bs → new ≡ take (length old) (take at old ++ bs)

-- the writer t is s after bs was put, into the same buffer
pub record Wrote (s : Writer) (bs : List ℕ) (t : Writer) : Type 0 where
  pub wrote : Puts s.buf.now s.at bs t.buf.now t.at
  pub same : t.buf.ghost_name ≡ s.buf.ghost_name

-- the texts of some cells, with commas between them
abbrev pub joined : {X : Type 0} → (X → List ℕ) → List X → List ℕ
joined text [] = []
joined text (x ∷ []) = text x
joined text (x ∷ (y ∷ ys)) = text x ++ (44 ∷ joined text (y ∷ ys))

-- the same, and - where there is none
abbrev pub listed : {X : Type 0} → (X → List ℕ) → List X → List ℕ
listed text [] = 45 ∷ []
listed text (x ∷ xs) = joined text (x ∷ xs)

-- the text stands at the buffer's front and the rest is as it was; or it is too long, and all is as it was
abbrev pub Shown : (text old new : List ℕ) → Result ℕ Reason → Type 0
Shown text old new (Ok n) = (n ≡ length text) × (n ≤ length old) × (new ≡ text ++ drop n old)
Shown text old new (Err e) = (e ≡ ShortBuffer) × (length old < length text) × (new ≡ old)
