-- The lines of a token in modest memory are short.
use Rattle.std.proofs.Common.{◌≡◌, ℕ, zero, suc, ◌+◌, ◌*◌, ◌<◌, ◌≤◌, Bool, true, false, cond, List, [], ◌∷◌, length, pos, Some, None, decimal, Option, sym, refl, subst, suc-mul, arith}
use Rattle.std.specs.Fmt.{signed_decimal}
use Rattle.std.proofs.lemmas.List.{length-append}
use Rattle.std.proofs.lemmas.Fmt.{length-decimal-le, length_signed_le}
use Rattle.machine.specs.declared.reasons.Reason.{Reason}
use Rattle.machine.specs.declared.reasons.Reason.TheVariants.{Home, NoRow, Unlinked, Full, Overflow, WalkLimit, NoNumber, TooManySteps, ShortBuffer}
use Rattle.machine.specs.Steps.{Next, to, ends}
use Rattle.machine.specs.Reasons.{number_of}
use Rattle.stack.specs.Shelving.{cells_held}
use Rattle.token.specs.declared.memory.Letter.{Letter}
use Rattle.token.specs.declared.memory.Letter.TheVariants.{Left, Right}
use Rattle.token.specs.declared.memory.IterCell.{IterCell}
use Rattle.token.specs.declared.memory.IterCell.TheVariants as iter
use Rattle.token.specs.declared.memory.DataCell.{DataCell}
use Rattle.token.specs.declared.memory.DataCell.TheVariants as dat
use Rattle.token.specs.State.{State, opened, is_home, only, brings, number_in}
use Rattle.token.specs.Next.{next, largest}
use Rattle.token.proofs.Steps.{stepping}
use Rattle.token.specs.Line.{letter_text, iter_text, data_text}
use Rattle.writer.specs.Written.{joined, listed}
use Rattle.lab.specs.Ends.{end_number, number_text}
use Rattle.lab.specs.Listings.{lines, line_at, end_line, placed, longest}
use Rattle.lab.specs.Bounds.{Every, LowData, LowIter, Modest, line_room, LinesFit}
use Rattle.lab.proofs.Bounds.{Bounded, bounded_open, bounded_step}
use Rattle.lab.proofs.Listings.{goes_on, stops_here, no_steps_left}

-- numbers of cells have at most ten digits
ten : (n : ℕ) → n ≤ largest → length (decimal n) ≤ 10
ten n h = length-decimal-le 10 n (omega arith) (omega arith) (omega arith)

-- m cells of at most n bytes, and the commas between them
module _ {X : Type 0} (text : X → List ℕ) (n : ℕ) where
  joined_short : (m : ℕ) (x : X) (xs : List X) → length xs ≤ m → Every (λ y. length (text y) ≤ n) (x ∷ xs) → length (joined text (x ∷ xs)) ≤ m * (n + 1) + n
  joined_short m x [] h e = let one = e.0 in omega arith
  joined_short zero x (y ∷ ys) h e = absurd (omega arith)
  joined_short (suc m) x (y ∷ ys) h e =
      let one = e.0 in
      let more = joined_short m y ys (omega arith) e.1 in
      let long = length-append (text x) (44 ∷ joined text (y ∷ ys)) in
      let times = suc-mul m (n + 1) in
      omega arith

  listed_short : (m : ℕ) (xs : List X) → length xs ≤ suc m → Every (λ y. length (text y) ≤ n) xs → length (listed text xs) ≤ m * (n + 1) + n + 1
  listed_short m [] h e = omega arith
  listed_short m (x ∷ xs) h e = let short = joined_short m x xs (omega arith) e in omega arith

every : {X : Type 0} {P Q : X → Type 0} → ((x : X) → P x → Q x) → (xs : List X) → Every P xs → Every Q xs
every f [] h = tt
every f (x ∷ xs) h = (f x h.0, every f xs h.1)

letter_short : (ls : List Letter) → Every (λ l. length (letter_text l) ≤ 1) ls
letter_short [] = tt
letter_short (Left ∷ ls) = (omega arith, letter_short ls)
letter_short (Right ∷ ls) = (omega arith, letter_short ls)

iter_short : (c : IterCell) → LowIter c → length (iter_text c) ≤ 21
iter_short (iter.Number a) h = let t = ten a h in omega arith
iter_short (iter.Pair a b) h = let t = ten a h.0 in let u = ten b h.1 in simp length-append (omega arith)

data_short : (d : DataCell) → LowData d → length (data_text d) ≤ 10
data_short dat.Question h = omega arith
data_short (dat.Number a) h = ten a h

-- the number that is brought home
number_short : (o : Option DataCell) → ((d : DataCell) → o ≡ Some d → LowData d) → length (number_text (number_in o)) ≤ 10
number_short None h = omega arith
number_short (Some dat.Question) h = omega arith
number_short (Some (dat.Number n)) h = ten n (h (dat.Number n) refl)

brought_low : (ds : List DataCell) (b : Bool) → Every LowData ds → (d : DataCell) → cond b (only ds) None ≡ Some d → LowData d
brought_low ds false h d e = absurd (let z : ◌≡◌ {A = ℕ} 0 1 = cc in omega arith)
brought_low [] true h d e = absurd (let z : ◌≡◌ {A = ℕ} 0 1 = cc in omega arith)
brought_low (x ∷ []) true h d e = let same : x ≡ d = cc in subst LowData same h.0
brought_low (x ∷ (y ∷ ys)) true h d e = absurd (let z : ◌≡◌ {A = ℕ} 0 1 = cc in omega arith)

reason_low : (w : Reason) → number_of w < 100
reason_low Home = omega arith
reason_low NoRow = omega arith
reason_low Unlinked = omega arith
reason_low Full = omega arith
reason_low Overflow = omega arith
reason_low WalkLimit = omega arith
reason_low NoNumber = omega arith
reason_low TooManySteps = omega arith
reason_low ShortBuffer = omega arith

why_low : (why : Option Reason) → end_number why < 100
why_low None = omega arith
why_low (Some w) = reason_low w

module _ (k : ℕ) (s : State) (few : k ≤ longest) (b : Bounded k s) (m : Modest s.nodes s.rooms) where
  line_short : length (line_at (placed k s)) ≤ line_room
  line_short =
      let nodes = m.nodes in
      let sum : length (signed_decimal (pos k)) ≤ 7 = length_signed_le 6 (pos k) (omega arith) (omega arith) in
      let f = b.from in
      let from : length (decimal s.from) ≤ 4 = length-decimal-le 4 s.from (omega arith) (omega arith) (omega arith) in
      let t = b.to in
      let at : length (decimal s.to) ≤ 4 = length-decimal-le 4 s.to (omega arith) (omega arith) (omega arith) in
      let h = b.held in
      let held : length (decimal (cells_held s.stacks.shelves)) ≤ 6 = length-decimal-le 6 (cells_held s.stacks.shelves) (omega arith) (omega arith) (omega arith) in
      let ml = m.letters in
      let bl = b.letters in
      let letters = listed_short letter_text 1 255 s.stacks.letters (omega arith) (letter_short s.stacks.letters) in
      let mi = m.iters in
      let bi = b.iters in
      let iters = listed_short iter_text 21 255 s.stacks.iters (omega arith) (every iter_short s.stacks.iters b.low.iters) in
      let md = m.datas in
      let bd = b.datas in
      let datas = listed_short data_text 10 1023 s.stacks.datas (omega arith) (every data_short s.stacks.datas b.low.datas) in
      simp length-append (omega arith)

  end_short : (why : Option Reason) → length (end_line why (placed k s)) ≤ line_room
  end_short why =
      let w = why_low why in
      let reason : length (decimal (end_number why)) ≤ 2 = length-decimal-le 2 (end_number why) (omega arith) (omega arith) (omega arith) in
      let sum : length (signed_decimal (pos k)) ≤ 7 = length_signed_le 6 (pos k) (omega arith) (omega arith) in
      let number = number_short (brings s) (brought_low s.stacks.datas (is_home s) b.low.datas) in
      simp length-append (omega arith)

-- a step leaves nodes and memory as they are
modest_step : (s t : State) → next s ≡ to t → Modest s.nodes s.rooms → Modest t.nodes t.rooms
modest_step s t e m =
    let (r, h, same) = stepping s t e in
    subst (λ u. Modest u.nodes u.rooms) (sym same) m

short : (left k : ℕ) (s : State) → k + left ≤ longest → Bounded k s → Modest s.nodes s.rooms → Every (λ l. length l ≤ line_room) (lines left (placed k s))
short zero k s few b m =
    subst (Every (λ l. length l ≤ line_room)) (sym (no_steps_left k s)) (line_short k s (omega arith) b m, (end_short k s (omega arith) b m None, tt))
short (suc left) k s few b m = by (next s) refl (λ u e. short left (suc k) u (omega arith) (bounded_step k s u b e) (modest_step s u e m))
  where
    by : (o : Next State) → next s ≡ o → ((u : State) → next s ≡ to u → Every (λ l. length l ≤ line_room) (lines left (placed (suc k) u))) → Every (λ l. length l ≤ line_room) (lines (suc left) (placed k s))
    by (to u) e rest = subst (Every (λ l. length l ≤ line_room)) (sym (goes_on left k s (omega arith) u e)) (line_short k s (omega arith) b m, rest u e)
    by (ends w) e rest = subst (Every (λ l. length l ≤ line_room)) (sym (stops_here left k s (omega arith) w e)) (line_short k s (omega arith) b m, (end_short k s (omega arith) b m (Some w), tt))

pub lines_fit : LinesFit
lines_fit ns rs d m h = short longest 0 (opened ns rs d) (omega arith) (bounded_open ns rs d h) m
