-- The node table as data: its rows, which stacks a row's top fits, and what its change leaves of them. Assumes nothing.
use Rattle.std.specs.Prelude.{ℕ, ◌+◌, ◌-◌, Bool, true, false, not, ◌&&◌, List, [], ◌∷◌, length, ◌==◌, nat_eq, nat_le}
use Rattle.cells.specs.declared.kinds.Kind.{Kind}
use Rattle.cells.specs.declared.kinds.Kind.TheVariants as kind
use Rattle.cells.specs.declared.kinds.Port.{Port}
use Rattle.cells.specs.declared.kinds.Port.TheVariants.{First, Second, Third}
use Rattle.stack.specs.Shelving.{shelf, with_shelf}
use Rattle.token.specs.declared.memory.Letter.{Letter}
use Rattle.token.specs.declared.memory.Letter.TheVariants.{Left, Right}
use Rattle.token.specs.declared.memory.Side.{Side}
use Rattle.token.specs.declared.memory.Side.TheVariants as side
use Rattle.token.specs.declared.memory.IterCell.{IterCell}
use Rattle.token.specs.declared.memory.IterCell.TheVariants as iter
use Rattle.token.specs.declared.memory.DataCell.{DataCell}
use Rattle.token.specs.declared.memory.DataCell.TheVariants as dat

-- the stacks m, i and d of a token and its shelves, each with its top first
pub record Stacks : Type 0 where
  pub letters : List Letter
  pub iters : List IterCell
  pub datas : List DataCell
  pub shelves : List (List IterCell)

abbrev pub with_letters : List Letter → Stacks → Stacks
with_letters ls s = record { letters = ls; iters = s.iters; datas = s.datas; shelves = s.shelves }

abbrev pub with_iters : List IterCell → Stacks → Stacks
with_iters cs s = record { letters = s.letters; iters = cs; datas = s.datas; shelves = s.shelves }

abbrev pub with_datas : List DataCell → Stacks → Stacks
with_datas ds s = record { letters = s.letters; iters = s.iters; datas = ds; shelves = s.shelves }

abbrev pub with_shelves : List (List IterCell) → Stacks → Stacks
with_shelves ss s = record { letters = s.letters; iters = s.iters; datas = s.datas; shelves = ss }

-- j is the number of a shelf: these count from 1, and a token has 64
abbrev pub is_shelf : ℕ → Stacks → Bool
is_shelf j s = nat_le 1 j && nat_le j (length s.shelves)

-- a pair whose count stands on one side, and what it keeps on the other
abbrev pub pair_on : Side → (count kept : ℕ) → IterCell
pair_on side.Left c k = iter.Pair c k
pair_on side.Right c k = iter.Pair k c

abbrev pub count_of : Side → (a b : ℕ) → ℕ
count_of side.Left a b = a
count_of side.Right a b = b

abbrev pub kept_of : Side → (a b : ℕ) → ℕ
kept_of side.Left a b = b
kept_of side.Right a b = a

-- what a row asks of the stacks
pub data Top : Type 0 where
  -- nothing
  anything : Top
  -- this letter on m
  letter : Letter → Top
  -- on d: *; * over *; a number; the node's own number; a number above 0; a number over *
  question questions number own positive over_question : Top
  -- on i: any cell, where the node's value is a shelf's number; a number; a pair
  iter_cell iter_number pair : Top
  -- on i: a pair whose count is 0, or is above 0
  started counting : Side → Top
  -- a cell on the shelf that the node's value names
  shelved : Top

-- what a row does; each stands beside what undoes it
pub data Change : Type 0 where
  -- * becomes the node's number; that number becomes *
  give take_back : Change
  -- * on * is added; * on * is taken away
  ask unask : Change
  -- a becomes a - 1 over *; a over * becomes a + 1
  lower raise : Change
  push pop : Letter → Change
  -- * is put on d; * is taken off d
  pose withdraw : Change
  -- a number moves from d to i; from i to d
  store restore : Change
  -- a number becomes a pair with the count 0; such a pair becomes a number
  start finish : Side → Change
  count_up count_down : Side → Change
  -- the top of i moves to the shelf; it moves back
  shelve unshelve : Change

pub record Row : Type 0 where
  pub kind : Kind
  pub port : Port
  pub top : Top
  pub change : Change
  pub exit : Port

abbrev row : Kind → Port → Top → Change → Port → Row
row k p t c e = record { kind = k; port = p; top = t; change = c; exit = e }

abbrev pub table : List Row
table =
    row kind.Number First question give First
    ∷ row kind.Number First own take_back First
    ∷ row kind.Successor Second question ask First
    ∷ row kind.Successor First questions unask Second
    ∷ row kind.Successor Second positive lower First
    ∷ row kind.Successor First over_question raise Second
    ∷ row kind.Multiplexer Second anything (push Left) First
    ∷ row kind.Multiplexer First (letter Left) (pop Left) Second
    ∷ row kind.Multiplexer Third anything (push Right) First
    ∷ row kind.Multiplexer First (letter Right) (pop Right) Third
    ∷ row kind.Iterator Second anything pose First
    ∷ row kind.Iterator First question withdraw Second
    ∷ row kind.Iterator First number store Third
    ∷ row kind.Iterator Third iter_number restore First
    ∷ row kind.LeftCounter Second iter_number (start side.Left) First
    ∷ row kind.LeftCounter First (started side.Left) (finish side.Left) Second
    ∷ row kind.LeftCounter Third pair (count_up side.Left) First
    ∷ row kind.LeftCounter First (counting side.Left) (count_down side.Left) Third
    ∷ row kind.RightCounter Second iter_number (start side.Right) First
    ∷ row kind.RightCounter First (started side.Right) (finish side.Right) Second
    ∷ row kind.RightCounter Third pair (count_up side.Right) First
    ∷ row kind.RightCounter First (counting side.Right) (count_down side.Right) Third
    ∷ row kind.Transfer Second iter_cell shelve First
    ∷ row kind.Transfer First shelved unshelve Second
    ∷ []

-- by the top of m, of d, of i, and of any stack
abbrev pub by_letter : {A : Type 0} → (none : A) → (on_left on_right : List Letter → A) → List Letter → A
by_letter z l r [] = z
by_letter z l r (Left ∷ ls) = l ls
by_letter z l r (Right ∷ ls) = r ls

abbrev pub by_data : {A : Type 0} → (none : A) → (on_question : List DataCell → A) → (on_number : ℕ → List DataCell → A) → List DataCell → A
by_data z q n [] = z
by_data z q n (dat.Question ∷ ds) = q ds
by_data z q n (dat.Number a ∷ ds) = n a ds

abbrev pub by_iter : {A : Type 0} → (none : A) → (on_number : ℕ → List IterCell → A) → (on_pair : ℕ → ℕ → List IterCell → A) → List IterCell → A
by_iter z n p [] = z
by_iter z n p (iter.Number a ∷ cs) = n a cs
by_iter z n p (iter.Pair a b ∷ cs) = p a b cs

abbrev pub by_top : {A X : Type 0} → (none : A) → (on_top : X → List X → A) → List X → A
by_top z f [] = z
by_top z f (x ∷ xs) = f x xs

abbrev pub is_letter : Letter → List Letter → Bool
is_letter Left ls = by_letter false (λ _. true) (λ _. false) ls
is_letter Right ls = by_letter false (λ _. false) (λ _. true) ls

abbrev pub is_question : List DataCell → Bool
is_question ds = by_data false (λ _. true) (λ _ _. false) ds

-- the stacks, at a node of value v, are as the top asks
abbrev pub fits : Top → (v : ℕ) → Stacks → Bool
fits anything v s = true
fits (letter l) v s = is_letter l s.letters
fits question v s = is_question s.datas
fits questions v s = by_data false is_question (λ _ _. false) s.datas
fits number v s = by_data false (λ _. false) (λ _ _. true) s.datas
fits own v s = by_data false (λ _. false) (λ a _. nat_eq a v) s.datas
fits positive v s = by_data false (λ _. false) (λ a _. not (a == 0)) s.datas
fits over_question v s = by_data false (λ _. false) (λ _ ds. is_question ds) s.datas
fits iter_cell v s = is_shelf v s && by_top false (λ _ _. true) s.iters
fits iter_number v s = by_iter false (λ _ _. true) (λ _ _ _. false) s.iters
fits pair v s = by_iter false (λ _ _. false) (λ _ _ _. true) s.iters
fits (started σ) v s = by_iter false (λ _ _. false) (λ a b _. nat_eq (count_of σ a b) 0) s.iters
fits (counting σ) v s = by_iter false (λ _ _. false) (λ a b _. not (count_of σ a b == 0)) s.iters
fits shelved v s = is_shelf v s && by_top false (λ _ _. true) (shelf v s.shelves)

-- what the change leaves of the stacks, at a node of value v
abbrev pub changed : Change → (v : ℕ) → Stacks → Stacks
changed give v s = by_data s (λ ds. with_datas (dat.Number v ∷ ds) s) (λ _ _. s) s.datas
changed take_back v s = by_data s (λ _. s) (λ _ ds. with_datas (dat.Question ∷ ds) s) s.datas
changed ask v s = with_datas (dat.Question ∷ s.datas) s
changed unask v s = by_top s (λ _ ds. with_datas ds s) s.datas
changed lower v s = by_data s (λ _. s) (λ a ds. with_datas (dat.Number (a - 1) ∷ (dat.Question ∷ ds)) s) s.datas
changed raise v s = by_data s (λ _. s) (λ a ds. by_top s (λ _ es. with_datas (dat.Number (a + 1) ∷ es) s) ds) s.datas
changed (push l) v s = with_letters (l ∷ s.letters) s
changed (pop l) v s = by_top s (λ _ ls. with_letters ls s) s.letters
changed pose v s = with_datas (dat.Question ∷ s.datas) s
changed withdraw v s = by_top s (λ _ ds. with_datas ds s) s.datas
changed store v s = by_data s (λ _. s) (λ a ds. with_datas ds (with_iters (iter.Number a ∷ s.iters) s)) s.datas
changed restore v s = by_iter s (λ a cs. with_datas (dat.Number a ∷ s.datas) (with_iters cs s)) (λ _ _ _. s) s.iters
changed (start σ) v s = by_iter s (λ k cs. with_iters (pair_on σ 0 k ∷ cs) s) (λ _ _ _. s) s.iters
changed (finish σ) v s = by_iter s (λ _ _. s) (λ a b cs. with_iters (iter.Number (kept_of σ a b) ∷ cs) s) s.iters
changed (count_up σ) v s = by_iter s (λ _ _. s) (λ a b cs. with_iters (pair_on σ (count_of σ a b + 1) (kept_of σ a b) ∷ cs) s) s.iters
changed (count_down σ) v s = by_iter s (λ _ _. s) (λ a b cs. with_iters (pair_on σ (count_of σ a b - 1) (kept_of σ a b) ∷ cs) s) s.iters
changed shelve v s = by_top s (λ c cs. with_shelves (with_shelf v (c ∷ shelf v s.shelves) s.shelves) (with_iters cs s)) s.iters
changed unshelve v s = by_top s (λ c cs. with_shelves (with_shelf v cs s.shelves) (with_iters (c ∷ s.iters) s)) (shelf v s.shelves)
