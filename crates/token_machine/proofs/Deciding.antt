-- Going through the table by kind, port and tops finds the row that applies.
use Rattle.std.proofs.Common.{◌≡◌, ℕ, suc, ◌+◌, ◌-◌, ◌≤◌, Bool, true, false, cond, not, ◌&&◌, eqb, ltb, leb, ◌⊎◌, List, [], ◌∷◌, length, get_or, Some, None, Ok, Err, Result, refl, ap, ◌∙◌, subst, inl, inr, arith}
use Rattle.std.proofs.Math.Bool.{and-false}
use Rattle.std.proofs.lemmas.Bool.Decides.{nat_tests}
use Rattle.cells.specs.declared.kinds.Kind.{Kind}
use Rattle.cells.specs.declared.kinds.Kind.TheVariants as kind
use Rattle.cells.specs.declared.kinds.Port.{Port}
use Rattle.cells.specs.declared.kinds.Port.TheVariants.{First, Second, Third}
use Rattle.machine.specs.declared.reasons.Reason.{Reason}
use Rattle.machine.specs.declared.reasons.Reason.TheVariants as reason
use Rattle.stack.specs.declared.edits.Edit.TheVariants.{Keep, Replace, Split, Join}
use Rattle.stack.specs.Edits.{top_of}
use Rattle.stack.specs.Shelving.{shelf, shelf_room}
use Rattle.token.specs.declared.memory.Letter.{Letter}
use Rattle.token.specs.declared.memory.Letter.TheVariants.{Left, Right}
use Rattle.token.specs.declared.memory.Side.{Side}
use Rattle.token.specs.declared.memory.Side.TheVariants as side
use Rattle.token.specs.declared.memory.IterCell.{IterCell}
use Rattle.token.specs.declared.memory.IterCell.TheVariants as iter
use Rattle.token.specs.declared.memory.DataCell.{DataCell}
use Rattle.token.specs.declared.memory.DataCell.TheVariants as dat
use Rattle.token.specs.Table.{Stacks, Row, table, anything, ask, changed, is_shelf, by_data, by_iter, count_of, kept_of, pair_on}
use Rattle.token.specs.State.{Rooms}
use Rattle.token.specs.Next.{first_row, within, small, largest}
use Rattle.token.proofs.Tests.{both, and_true, leb_yes, leb-most}
use Rattle.token_machine.specs.declared.passages.Passage.{Passage}
use Rattle.token_machine.specs.Passages.{through, at_counter, on_shelf, with_more, on_datas, on_iters}
use Rattle.token_machine.specs.Passing.{passed, tops_of, LowData, LowIter, LowTops}

-- numbers on top that fit
abbrev low_d : List DataCell → Bool
low_d ds = by_data true (λ _. true) (λ a _. leb a largest) ds

abbrev low_i : List IterCell → Bool
low_i cs = by_iter true (λ a _. leb a largest) (λ a b _. leb a largest && leb b largest) cs

pub low_data : (ds : List DataCell) → LowData (top_of ds) → low_d ds ≡ true
low_data [] h = refl
low_data (dat.Question ∷ ds) h = refl
low_data (dat.Number a ∷ ds) h = leb_yes a largest h

pub low_iter : (cs : List IterCell) → LowIter (top_of cs) → low_i cs ≡ true
low_iter [] h = refl
low_iter (iter.Number a ∷ cs) h = leb_yes a largest h
low_iter (iter.Pair a b ∷ cs) h = and_true _ _ (leb_yes a largest h.0) (leb_yes b largest h.1)

-- the passage does what the row that applies does
pub record Agrees (k : Kind) (p : Port) (v : ℕ) (s : Stacks) (m : Passage) : Type 0 where
  pub row : Row
  pub found : first_row k p v s table ≡ Some row
  pub exit : row.exit ≡ m.exit
  pub change : changed row.change v s ≡ passed v m s
  pub lows : LowTops (tops_of v s) → v ≤ largest → small (changed row.change v s) ≡ true
  pub shelf : (m.shelf ≡ Keep) ⊎ (is_shelf v s ≡ true)

-- the row that applies makes a number too large, and no stack larger
pub record TooLarge (k : Kind) (p : Port) (v : ℕ) (s : Stacks) : Type 0 where
  pub row : Row
  pub found : first_row k p v s table ≡ Some row
  pub large : small (changed row.change v s) ≡ false
  pub size : (rs : Rooms) → within rs v s ≡ true → within rs v (changed row.change v s) ≡ true

abbrev pub Ended : Kind → Port → ℕ → Stacks → Reason → Type 0
Ended k p v s reason.Home = ⊥
Ended k p v s reason.NoRow = first_row k p v s table ≡ None
Ended k p v s reason.Unlinked = ⊥
Ended k p v s reason.Full = ⊥
Ended k p v s reason.Overflow = TooLarge k p v s
Ended k p v s reason.WalkLimit = ⊥
Ended k p v s reason.NoNumber = ⊥
Ended k p v s reason.TooManySteps = ⊥
Ended k p v s reason.ShortBuffer = ⊥

abbrev pub Decided : Kind → Port → ℕ → Stacks → Result Passage Reason → Type 0
Decided k p v s (Ok m) = Agrees k p v s m
Decided k p v s (Err w) = Ended k p v s w

abbrev stacks : List Letter → List IterCell → List DataCell → List (List IterCell) → Stacks
stacks ls cs ds ss = record { letters = ls; iters = cs; datas = ds; shelves = ss }

abbrev Decides : Kind → Port → ℕ → Stacks → Type 0
Decides k p v s = Decided k p v s (through k v p (tops_of v s))

-- the rows by their places in the table
abbrev nth : ℕ → Row
nth n = get_or table n (record { kind = kind.Root; port = First; top = anything; change = ask; exit = First })

-- by a row that leaves the shelves alone
by_row : {k : Kind} {p : Port} {v : ℕ} {s : Stacks} {m : Passage} (r : Row) → first_row k p v s table ≡ Some r → r.exit ≡ m.exit → changed r.change v s ≡ passed v m s → m.shelf ≡ Keep → (LowTops (tops_of v s) → v ≤ largest → small (changed r.change v s) ≡ true) → Agrees k p v s m
by_row r f e c k l = record { row = r; found = f; exit = e; change = c; lows = l; shelf = inl k }

less : (a : ℕ) → a ≤ largest → a - 1 ≤ largest
less a h = omega arith

more : (a : ℕ) → ltb a 4294967295 ≡ true → a + 1 ≤ largest
more a h = grind (arith, nat_tests)

too_many : (a : ℕ) → ltb a 4294967295 ≡ false → leb (a + 1) largest ≡ false
too_many a h = grind (arith, nat_tests)

positive_test : (a : ℕ) → not (eqb a 0) ≡ ltb 0 a
positive_test a = grind (arith, nat_tests)

-- n

at_own : (v a : ℕ) (ls : List Letter) (cs : List IterCell) (ds : List DataCell) (ss : List (List IterCell)) (b : Bool) → eqb a v ≡ b → Decided kind.Number First v (stacks ls cs (dat.Number a ∷ ds) ss) (cond b (Ok (on_datas (Replace dat.Question) First)) (Err reason.NoRow))
at_own v a ls cs ds ss true e = by_row (nth 1) (rw e) refl refl refl (λ h l. low_iter cs h.iter)
at_own v a ls cs ds ss false e = rw e

at_number_lem : (p : Port) (v : ℕ) (ls : List Letter) (cs : List IterCell) (ds : List DataCell) (ss : List (List IterCell)) → Decides kind.Number p v (stacks ls cs ds ss)
at_number_lem First v ls cs [] ss = refl
at_number_lem First v ls cs (dat.Question ∷ ds) ss = by_row (nth 0) refl refl refl refl (λ h l. and_true _ _ (leb_yes v largest l) (low_iter cs h.iter))
at_number_lem First v ls cs (dat.Number a ∷ ds) ss = at_own v a ls cs ds ss (eqb a v) refl
at_number_lem Second v ls cs ds ss = refl
at_number_lem Third v ls cs ds ss = refl

-- S

shrunk : (rs : Rooms) (v : ℕ) (a b : ℕ) (ls : List Letter) (cs : List IterCell) (ds : List DataCell) (ss : List (List IterCell)) → within rs v (stacks ls cs (dat.Number a ∷ (dat.Question ∷ ds)) ss) ≡ true → within rs v (stacks ls cs (dat.Number b ∷ ds) ss) ≡ true
shrunk rs v a b ls cs ds ss h =
    let (x, h₁) = both (leb (length ls) rs.letters) _ h in
    let (y, h₂) = both (leb (length cs) rs.iters) _ h₁ in
    let (z, w) = both (leb (suc (suc (length ds))) rs.datas) (leb (length (shelf v ss)) (shelf_room rs.shelves v)) h₂ in
    let few = leb-most (suc (suc (length ds))) rs.datas z in
    and_true _ _ x (and_true _ _ y (and_true _ _ (leb_yes (suc (length ds)) rs.datas (omega arith)) w))

at_raise : (v a : ℕ) (ls : List Letter) (cs : List IterCell) (ds : List DataCell) (ss : List (List IterCell)) (b : Bool) → ltb a 4294967295 ≡ b → Decided kind.Successor First v (stacks ls cs (dat.Number a ∷ (dat.Question ∷ ds)) ss) (with_more (cond b (Ok (a + 1)) (Err reason.Overflow)) (λ n. on_datas (Join (dat.Number n)) Second))
at_raise v a ls cs ds ss true e = by_row (nth 5) refl refl refl refl (λ h l. and_true _ _ (leb_yes (a + 1) largest (more a e)) (low_iter cs h.iter))
at_raise v a ls cs ds ss false e = record { row = nth 5; found = refl; large = ap (λ t. t && low_i cs) (too_many a e); size = λ rs h. shrunk rs v a (a + 1) ls cs ds ss h }

at_lower : (v a : ℕ) (ls : List Letter) (cs : List IterCell) (ds : List DataCell) (ss : List (List IterCell)) (b : Bool) → ltb 0 a ≡ b → Decided kind.Successor Second v (stacks ls cs (dat.Number a ∷ ds) ss) (cond b (Ok (on_datas (Split dat.Question (dat.Number (a - 1))) First)) (Err reason.NoRow))
at_lower v a ls cs ds ss true e = by_row (nth 4) (rw (positive_test a, e)) refl refl refl (λ h l. and_true _ _ (leb_yes (a - 1) largest (less a h.datum)) (low_iter cs h.iter))
at_lower v a ls cs ds ss false e = rw (positive_test a, e)

at_successor_lem : (p : Port) (v : ℕ) (ls : List Letter) (cs : List IterCell) (ds : List DataCell) (ss : List (List IterCell)) → Decides kind.Successor p v (stacks ls cs ds ss)
at_successor_lem First v ls cs [] ss = refl
at_successor_lem First v ls cs (dat.Question ∷ []) ss = refl
at_successor_lem First v ls cs (dat.Question ∷ (dat.Question ∷ ds)) ss = by_row (nth 3) refl refl refl refl (λ h l. low_iter cs h.iter)
at_successor_lem First v ls cs (dat.Question ∷ (dat.Number b ∷ ds)) ss = refl
at_successor_lem First v ls cs (dat.Number a ∷ []) ss = refl
at_successor_lem First v ls cs (dat.Number a ∷ (dat.Question ∷ ds)) ss = at_raise v a ls cs ds ss (ltb a 4294967295) refl
at_successor_lem First v ls cs (dat.Number a ∷ (dat.Number b ∷ ds)) ss = refl
at_successor_lem Second v ls cs [] ss = refl
at_successor_lem Second v ls cs (dat.Question ∷ ds) ss = by_row (nth 2) refl refl refl refl (λ h l. low_iter cs h.iter)
at_successor_lem Second v ls cs (dat.Number a ∷ ds) ss = at_lower v a ls cs ds ss (ltb 0 a) refl
at_successor_lem Third v ls cs ds ss = refl

-- m

same_low : (v : ℕ) (ls ks : List Letter) (cs : List IterCell) (ds : List DataCell) (ss : List (List IterCell)) → LowTops (tops_of v (stacks ls cs ds ss)) → small (stacks ks cs ds ss) ≡ true
same_low v ls ks cs ds ss h = and_true _ _ (low_data ds h.datum) (low_iter cs h.iter)

at_multiplexer_lem : (p : Port) (v : ℕ) (ls : List Letter) (cs : List IterCell) (ds : List DataCell) (ss : List (List IterCell)) → Decides kind.Multiplexer p v (stacks ls cs ds ss)
at_multiplexer_lem First v [] cs ds ss = refl
at_multiplexer_lem First v (Left ∷ ls) cs ds ss = by_row (nth 7) refl refl refl refl (λ h l. same_low v (Left ∷ ls) ls cs ds ss h)
at_multiplexer_lem First v (Right ∷ ls) cs ds ss = by_row (nth 9) refl refl refl refl (λ h l. same_low v (Right ∷ ls) ls cs ds ss h)
at_multiplexer_lem Second v ls cs ds ss = by_row (nth 6) refl refl refl refl (λ h l. same_low v ls (Left ∷ ls) cs ds ss h)
at_multiplexer_lem Third v ls cs ds ss = by_row (nth 8) refl refl refl refl (λ h l. same_low v ls (Right ∷ ls) cs ds ss h)

-- I

at_iterator_lem : (p : Port) (v : ℕ) (ls : List Letter) (cs : List IterCell) (ds : List DataCell) (ss : List (List IterCell)) → Decides kind.Iterator p v (stacks ls cs ds ss)
at_iterator_lem First v ls cs [] ss = refl
at_iterator_lem First v ls cs (dat.Question ∷ ds) ss = by_row (nth 11) refl refl refl refl (λ h l. and_true _ _ (low_data ds h.under_datum) (low_iter cs h.iter))
at_iterator_lem First v ls cs (dat.Number a ∷ ds) ss = by_row (nth 12) refl refl refl refl (λ h l. and_true _ _ (low_data ds h.under_datum) (leb_yes a largest h.datum))
at_iterator_lem Second v ls cs ds ss = by_row (nth 10) refl refl refl refl (λ h l. low_iter cs h.iter)
at_iterator_lem Third v ls [] ds ss = refl
at_iterator_lem Third v ls (iter.Number a ∷ cs) ds ss = by_row (nth 13) refl refl refl refl (λ h l. and_true _ _ (leb_yes a largest h.iter) (low_iter cs h.under_iter))
at_iterator_lem Third v ls (iter.Pair a b ∷ cs) ds ss = refl

-- c and c'

low_pair : (σ : Side) (n k : ℕ) (cs : List IterCell) → n ≤ largest → k ≤ largest → low_i (pair_on σ n k ∷ cs) ≡ true
low_pair side.Left n k cs h l = and_true _ _ (leb_yes n largest h) (leb_yes k largest l)
low_pair side.Right n k cs h l = and_true _ _ (leb_yes k largest l) (leb_yes n largest h)

pub high : (a b : Bool) → b ≡ false → (a && b) ≡ false
high a b e = ap (λ t. a && t) e ∙ and-false a

high_pair : (σ : Side) (n k : ℕ) (cs : List IterCell) → leb n largest ≡ false → low_i (pair_on σ n k ∷ cs) ≡ false
high_pair side.Left n k cs h = ap (λ t. t && leb k largest) h
high_pair side.Right n k cs h = high (leb k largest) _ h

low_count : (σ : Side) (a b : ℕ) → (a ≤ largest) × (b ≤ largest) → count_of σ a b ≤ largest
low_count side.Left a b h = h.0
low_count side.Right a b h = h.1

low_kept : (σ : Side) (a b : ℕ) → (a ≤ largest) × (b ≤ largest) → kept_of σ a b ≤ largest
low_kept side.Left a b h = h.1
low_kept side.Right a b h = h.0

-- the kind that counts on a side, and where its rows begin
abbrev counter : Side → Kind
counter side.Left = kind.LeftCounter
counter side.Right = kind.RightCounter

abbrev rows : Side → ℕ → Row
rows side.Left n = nth (14 + n)
rows side.Right n = nth (18 + n)

counts_up : (σ : Side) (v a b : ℕ) (ls : List Letter) (cs : List IterCell) (ds : List DataCell) (ss : List (List IterCell)) (t : Bool) → ltb (count_of σ a b) 4294967295 ≡ t → Decided (counter σ) Third v (stacks ls (iter.Pair a b ∷ cs) ds ss) (with_more (cond t (Ok (count_of σ a b + 1)) (Err reason.Overflow)) (λ n. on_iters (Replace (pair_on σ n (kept_of σ a b))) First))
counts_up side.Left v a b ls cs ds ss true e = by_row (rows side.Left 2) refl refl refl refl (λ h l. and_true _ _ (low_data ds h.datum) (low_pair side.Left (a + 1) b cs (more a e) (low_kept side.Left a b h.iter)))
counts_up side.Right v a b ls cs ds ss true e = by_row (rows side.Right 2) refl refl refl refl (λ h l. and_true _ _ (low_data ds h.datum) (low_pair side.Right (b + 1) a cs (more b e) (low_kept side.Right a b h.iter)))
counts_up side.Left v a b ls cs ds ss false e = record { row = rows side.Left 2; found = refl; large = high (low_d ds) _ (high_pair side.Left (a + 1) b cs (too_many a e)); size = λ rs h. h }
counts_up side.Right v a b ls cs ds ss false e = record { row = rows side.Right 2; found = refl; large = high (low_d ds) _ (high_pair side.Right (b + 1) a cs (too_many b e)); size = λ rs h. h }

counts_down : (σ : Side) (v a b : ℕ) (ls : List Letter) (cs : List IterCell) (ds : List DataCell) (ss : List (List IterCell)) (t : Bool) → eqb (count_of σ a b) 0 ≡ t → Decided (counter σ) First v (stacks ls (iter.Pair a b ∷ cs) ds ss) (cond t (Ok (on_iters (Replace (iter.Number (kept_of σ a b))) Second)) (Ok (on_iters (Replace (pair_on σ (count_of σ a b - 1) (kept_of σ a b))) Third)))
counts_down side.Left v a b ls cs ds ss true e = by_row (rows side.Left 1) (rw e) refl refl refl (λ h l. and_true _ _ (low_data ds h.datum) (leb_yes b largest h.iter.1))
counts_down side.Right v a b ls cs ds ss true e = by_row (rows side.Right 1) (rw e) refl refl refl (λ h l. and_true _ _ (low_data ds h.datum) (leb_yes a largest h.iter.0))
counts_down side.Left v a b ls cs ds ss false e = by_row (rows side.Left 3) (rw e) refl refl refl (λ h l. and_true _ _ (low_data ds h.datum) (low_pair side.Left (a - 1) b cs (less a h.iter.0) h.iter.1))
counts_down side.Right v a b ls cs ds ss false e = by_row (rows side.Right 3) (rw e) refl refl refl (λ h l. and_true _ _ (low_data ds h.datum) (low_pair side.Right (b - 1) a cs (less b h.iter.1) h.iter.0))

none_low : 0 ≤ largest
none_low = omega arith

at_counter_lem : (σ : Side) (p : Port) (v : ℕ) (ls : List Letter) (cs : List IterCell) (ds : List DataCell) (ss : List (List IterCell)) → Decided (counter σ) p v (stacks ls cs ds ss) (at_counter σ p (top_of cs))
at_counter_lem side.Left First v ls [] ds ss = refl
at_counter_lem side.Left Second v ls [] ds ss = refl
at_counter_lem side.Left Third v ls [] ds ss = refl
at_counter_lem side.Left First v ls (iter.Number a ∷ cs) ds ss = refl
at_counter_lem side.Left First v ls (iter.Pair a b ∷ cs) ds ss = counts_down side.Left v a b ls cs ds ss (eqb a 0) refl
at_counter_lem side.Left Second v ls (iter.Number a ∷ cs) ds ss = by_row (rows side.Left 0) refl refl refl refl (λ h l. and_true _ _ (low_data ds h.datum) (low_pair side.Left 0 a cs none_low h.iter))
at_counter_lem side.Left Second v ls (iter.Pair a b ∷ cs) ds ss = refl
at_counter_lem side.Left Third v ls (iter.Number a ∷ cs) ds ss = refl
at_counter_lem side.Left Third v ls (iter.Pair a b ∷ cs) ds ss = counts_up side.Left v a b ls cs ds ss (ltb a 4294967295) refl
at_counter_lem side.Right First v ls [] ds ss = refl
at_counter_lem side.Right Second v ls [] ds ss = refl
at_counter_lem side.Right Third v ls [] ds ss = refl
at_counter_lem side.Right First v ls (iter.Number a ∷ cs) ds ss = refl
at_counter_lem side.Right First v ls (iter.Pair a b ∷ cs) ds ss = counts_down side.Right v a b ls cs ds ss (eqb b 0) refl
at_counter_lem side.Right Second v ls (iter.Number a ∷ cs) ds ss = by_row (rows side.Right 0) refl refl refl refl (λ h l. and_true _ _ (low_data ds h.datum) (low_pair side.Right 0 a cs none_low h.iter))
at_counter_lem side.Right Second v ls (iter.Pair a b ∷ cs) ds ss = refl
at_counter_lem side.Right Third v ls (iter.Number a ∷ cs) ds ss = refl
at_counter_lem side.Right Third v ls (iter.Pair a b ∷ cs) ds ss = counts_up side.Right v a b ls cs ds ss (ltb b 4294967295) refl

-- t

is_shelf_lem : (v : ℕ) (ls : List Letter) (cs : List IterCell) (ds : List DataCell) (ss : List (List IterCell)) (t : Bool) → length ss ≡ 64 → (leb 1 v && leb v 64) ≡ t → is_shelf v (stacks ls cs ds ss) ≡ t
is_shelf_lem v ls cs ds ss t long e = ap (λ n. leb 1 v && leb v n) long ∙ e

on_shelf_lem : (p : Port) (v : ℕ) (ls : List Letter) (cs : List IterCell) (ds : List DataCell) (ss : List (List IterCell)) (xs : List IterCell) → shelf v ss ≡ xs → is_shelf v (stacks ls cs ds ss) ≡ true → Decided kind.Transfer p v (stacks ls cs ds ss) (on_shelf p (top_of cs) (top_of xs))
on_shelf_lem First v ls cs ds ss [] e h = rw (h, e)
on_shelf_lem First v ls cs ds ss (x ∷ xs) e h = record {
  row = nth 23;
  found = rw (h, e);
  exit = refl;
  change = rw e;
  lows = λ l m. rw e (and_true _ _ (low_data ds l.datum) (low_iter (x ∷ cs) (subst (λ ys. LowIter (top_of ys)) e l.shelved)));
  shelf = inr h;
}
on_shelf_lem Second v ls [] ds ss xs e h = rw h
on_shelf_lem Second v ls (c ∷ cs) ds ss xs e h = record { row = nth 22; found = rw h; exit = refl; change = refl; lows = λ l m. and_true _ _ (low_data ds l.datum) (low_iter cs l.under_iter); shelf = inr h }
on_shelf_lem Third v ls cs ds ss xs e h = refl

no_shelf : (p : Port) (v : ℕ) (ls : List Letter) (cs : List IterCell) (ds : List DataCell) (ss : List (List IterCell)) → is_shelf v (stacks ls cs ds ss) ≡ false → first_row kind.Transfer p v (stacks ls cs ds ss) table ≡ None
no_shelf First v ls cs ds ss h = rw h
no_shelf Second v ls cs ds ss h = rw h
no_shelf Third v ls cs ds ss h = refl

transfer : (p : Port) (v : ℕ) (ls : List Letter) (cs : List IterCell) (ds : List DataCell) (ss : List (List IterCell)) (t : Bool) → length ss ≡ 64 → (leb 1 v && leb v 64) ≡ t → Decided kind.Transfer p v (stacks ls cs ds ss) (cond t (on_shelf p (top_of cs) (top_of (shelf v ss))) (Err reason.NoRow))
transfer p v ls cs ds ss true long e = on_shelf_lem p v ls cs ds ss (shelf v ss) refl (is_shelf_lem v ls cs ds ss true long e)
transfer p v ls cs ds ss false long e = no_shelf p v ls cs ds ss (is_shelf_lem v ls cs ds ss false long e)

decide : (k : Kind) (p : Port) (v : ℕ) (ls : List Letter) (cs : List IterCell) (ds : List DataCell) (ss : List (List IterCell)) → length ss ≡ 64 → Decides k p v (stacks ls cs ds ss)
decide kind.Root p v ls cs ds ss long = refl
decide kind.Number p v ls cs ds ss long = at_number_lem p v ls cs ds ss
decide kind.Successor p v ls cs ds ss long = at_successor_lem p v ls cs ds ss
decide kind.Multiplexer p v ls cs ds ss long = at_multiplexer_lem p v ls cs ds ss
decide kind.Iterator p v ls cs ds ss long = at_iterator_lem p v ls cs ds ss
decide kind.LeftCounter p v ls cs ds ss long = at_counter_lem side.Left p v ls cs ds ss
decide kind.RightCounter p v ls cs ds ss long = at_counter_lem side.Right p v ls cs ds ss
decide kind.Transfer p v ls cs ds ss long = transfer p v ls cs ds ss (leb 1 v && leb v 64) long refl

pub decided : (k : Kind) (p : Port) (v : ℕ) (s : Stacks) → length s.shelves ≡ 64 → Decided k p v s (through k v p (tops_of v s))
decided k p v s long = decide k p v s.letters s.iters s.datas s.shelves long
