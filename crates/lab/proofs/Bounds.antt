-- How high the numbers and the stacks of a token can be on its way from the opening.
use Rattle.std.proofs.Common.{◌≡◌, ℕ, zero, suc, ◌+◌, ◌-◌, ◌*◌, ◌≤◌, Bool, true, false, cond, ◌&&◌, eqb, leb, List, [], ◌∷◌, length, get_or, set, replicate, sym, refl, subst, arith}
use borrow.Author.Tests.{eqb-false}
use Rattle.cells.specs.Ports.{Node, inside, link}
use Rattle.machine.specs.Steps.{to}
use Rattle.stack.specs.Shelving.{shelf, with_shelf, cells_held}
use Rattle.token.specs.declared.memory.Letter.{Letter}
use Rattle.token.specs.declared.memory.Side.{Side}
use Rattle.token.specs.declared.memory.Side.TheVariants as side
use Rattle.token.specs.declared.memory.IterCell.{IterCell}
use Rattle.token.specs.declared.memory.IterCell.TheVariants as iter
use Rattle.token.specs.declared.memory.DataCell.{DataCell}
use Rattle.token.specs.declared.memory.DataCell.TheVariants as dat
use Rattle.token.specs.Table.{Stacks, Change, changed, by_top, by_data, by_iter, with_iters, with_shelves, pair_on, count_of, kept_of, give, take_back, ask, unask, lower, raise, push, pop, pose, withdraw, store, restore, start, finish, count_up, count_down, shelve, unshelve}
use Rattle.token.specs.State.{Rooms, State, opened, entrance}
use Rattle.token.specs.Next.{next, small, within, value_to, exit_to, after, largest}
use Rattle.token.proofs.Tests.{both, leb-most}
use Rattle.cells.proofs.Ports.{is_linked}
use Rattle.token.proofs.Steps.{stepping}
use Rattle.cells.proofs.Inside.{inside_low}
use Rattle.lab.specs.Bounds.{Every, LowData, LowIter}

-- the numbers of some stacks are at most 4,294,967,295
pub record Low (s : Stacks) : Type 0 where
  pub datas : Every LowData s.datas
  pub iters : Every LowIter s.iters
  pub shelves : Every (Every LowIter) s.shelves

low_shelf : (v : ℕ) (ss : List (List IterCell)) → Every (Every LowIter) ss → Every LowIter (shelf v ss)
low_shelf zero ss h = tt
low_shelf (suc zero) [] h = tt
low_shelf (suc zero) (x ∷ ss) h = h.0
low_shelf (suc (suc k)) [] h = tt
low_shelf (suc (suc k)) (x ∷ ss) h = low_shelf (suc k) ss h.1

low_with : (v : ℕ) (xs : List IterCell) (ss : List (List IterCell)) → Every LowIter xs → Every (Every LowIter) ss → Every (Every LowIter) (with_shelf v xs ss)
low_with zero xs ss h k = k
low_with (suc zero) xs [] h k = tt
low_with (suc zero) xs (x ∷ ss) h k = (h, k.1)
low_with (suc (suc n)) xs [] h k = tt
low_with (suc (suc n)) xs (x ∷ ss) h k = (k.0, low_with (suc n) xs ss h k.1)

low_pair : (σ : Side) (a b c : ℕ) → c ≤ largest → LowIter (iter.Pair a b) → LowIter (pair_on σ c (kept_of σ a b))
low_pair side.Left a b c h k = (h, k.1)
low_pair side.Right a b c h k = (k.0, h)

low_start : (σ : Side) (k : ℕ) → k ≤ largest → LowIter (pair_on σ 0 k)
low_start side.Left k h = (omega arith, h)
low_start side.Right k h = (h, omega arith)

low_kept : (σ : Side) (a b : ℕ) → LowIter (iter.Pair a b) → kept_of σ a b ≤ largest
low_kept side.Left a b k = k.1
low_kept side.Right a b k = k.0

low_count : (σ : Side) (a b : ℕ) → LowIter (iter.Pair a b) → count_of σ a b - 1 ≤ largest
low_count side.Left a b k = let h = k.0 in omega arith
low_count side.Right a b k = let h = k.1 in omega arith

-- the counted side of a pair that is small
low_counted : (σ : Side) (n k : ℕ) (cs : List IterCell) → by_iter true (λ a _. leb a largest) (λ a b _. leb a largest && leb b largest) (pair_on σ n k ∷ cs) ≡ true → n ≤ largest
low_counted side.Left n k cs h = leb-most n largest (both (leb n largest) _ h).0
low_counted side.Right n k cs h = leb-most n largest (both (leb k largest) (leb n largest) h).1

-- what a change leaves of low numbers is low, if what is new on top is
module _ (v : ℕ) (ls : List Letter) (ss : List (List IterCell)) where
  abbrev stacks : List IterCell → List DataCell → Stacks
  stacks cs ds = record { letters = ls; iters = cs; datas = ds; shelves = ss }

  abbrev low : List IterCell → List DataCell → Type 0
  low cs ds = Low (stacks cs ds)

  abbrev top_low : Stacks → Type 0
  top_low s = small s ≡ true

  low_unshelved : (cs : List IterCell) (ds : List DataCell) → low cs ds → (xs : List IterCell) → Every LowIter xs → Low (by_top (stacks cs ds) (λ c rest. with_shelves (with_shelf v rest ss) (with_iters (c ∷ cs) (stacks cs ds))) xs)
  low_unshelved cs ds h [] k = h
  low_unshelved cs ds h (x ∷ xs) k = record { datas = h.datas; iters = (k.0, h.iters); shelves = low_with v xs ss k.1 h.shelves }

  low_changed : (c : Change) (cs : List IterCell) (ds : List DataCell) → low cs ds → top_low (changed c v (stacks cs ds)) → Low (changed c v (stacks cs ds))
  low_changed give cs [] h t = h
  low_changed give cs (dat.Question ∷ ds) h t = record { datas = (leb-most v largest (both (leb v largest) _ t).0, h.datas.1); iters = h.iters; shelves = h.shelves }
  low_changed give cs (dat.Number a ∷ ds) h t = h
  low_changed take_back cs [] h t = h
  low_changed take_back cs (dat.Question ∷ ds) h t = h
  low_changed take_back cs (dat.Number a ∷ ds) h t = record { datas = (tt, h.datas.1); iters = h.iters; shelves = h.shelves }
  low_changed ask cs ds h t = record { datas = (tt, h.datas); iters = h.iters; shelves = h.shelves }
  low_changed unask cs [] h t = h
  low_changed unask cs (d ∷ ds) h t = record { datas = h.datas.1; iters = h.iters; shelves = h.shelves }
  low_changed lower cs [] h t = h
  low_changed lower cs (dat.Question ∷ ds) h t = h
  low_changed lower cs (dat.Number a ∷ ds) h t = let k = h.datas.0 in record { datas = (omega arith, (tt, h.datas.1)); iters = h.iters; shelves = h.shelves }
  low_changed raise cs [] h t = h
  low_changed raise cs (dat.Question ∷ ds) h t = h
  low_changed raise cs (dat.Number a ∷ []) h t = h
  low_changed raise cs (dat.Number a ∷ (d ∷ ds)) h t = record { datas = (leb-most (a + 1) largest (both (leb (a + 1) largest) _ t).0, h.datas.1.1); iters = h.iters; shelves = h.shelves }
  low_changed (push l) cs ds h t = record { datas = h.datas; iters = h.iters; shelves = h.shelves }
  low_changed (pop l) cs ds h t = low_popped ls
    where
      low_popped : (ms : List Letter) → Low (by_top (stacks cs ds) (λ _ rest. record { letters = rest; iters = cs; datas = ds; shelves = ss }) ms)
      low_popped [] = h
      low_popped (m ∷ ms) = record { datas = h.datas; iters = h.iters; shelves = h.shelves }
  low_changed pose cs ds h t = record { datas = (tt, h.datas); iters = h.iters; shelves = h.shelves }
  low_changed withdraw cs [] h t = h
  low_changed withdraw cs (d ∷ ds) h t = record { datas = h.datas.1; iters = h.iters; shelves = h.shelves }
  low_changed store cs [] h t = h
  low_changed store cs (dat.Question ∷ ds) h t = h
  low_changed store cs (dat.Number a ∷ ds) h t = record { datas = h.datas.1; iters = (h.datas.0, h.iters); shelves = h.shelves }
  low_changed restore [] ds h t = h
  low_changed restore (iter.Number a ∷ cs) ds h t = record { datas = (h.iters.0, h.datas); iters = h.iters.1; shelves = h.shelves }
  low_changed restore (iter.Pair a b ∷ cs) ds h t = h
  low_changed (start σ) [] ds h t = h
  low_changed (start σ) (iter.Number a ∷ cs) ds h t = record { datas = h.datas; iters = (low_start σ a h.iters.0, h.iters.1); shelves = h.shelves }
  low_changed (start σ) (iter.Pair a b ∷ cs) ds h t = h
  low_changed (finish σ) [] ds h t = h
  low_changed (finish σ) (iter.Number a ∷ cs) ds h t = h
  low_changed (finish σ) (iter.Pair a b ∷ cs) ds h t = record { datas = h.datas; iters = (low_kept σ a b h.iters.0, h.iters.1); shelves = h.shelves }
  low_changed (count_up σ) [] ds h t = h
  low_changed (count_up σ) (iter.Number a ∷ cs) ds h t = h
  low_changed (count_up σ) (iter.Pair a b ∷ cs) ds h t =
      let n = count_of σ a b + 1 in
      let most = low_counted σ n (kept_of σ a b) cs (both _ (by_iter true (λ a _. leb a largest) (λ a b _. leb a largest && leb b largest) (pair_on σ n (kept_of σ a b) ∷ cs)) t).1 in
      record { datas = h.datas; iters = (low_pair σ a b n most h.iters.0, h.iters.1); shelves = h.shelves }
  low_changed (count_down σ) [] ds h t = h
  low_changed (count_down σ) (iter.Number a ∷ cs) ds h t = h
  low_changed (count_down σ) (iter.Pair a b ∷ cs) ds h t = record { datas = h.datas; iters = (low_pair σ a b (count_of σ a b - 1) (low_count σ a b h.iters.0) h.iters.0, h.iters.1); shelves = h.shelves }
  low_changed shelve [] ds h t = h
  low_changed shelve (c ∷ cs) ds h t = record { datas = h.datas; iters = h.iters.1; shelves = low_with v (c ∷ shelf v ss) ss (h.iters.0, low_shelf v ss h.shelves) h.shelves }
  low_changed unshelve cs ds h t = low_unshelved cs ds h (shelf v ss) (low_shelf v ss h.shelves)

-- one cell at most is put on the shelves

held-set : (k : ℕ) (xs : List IterCell) (ss : List (List IterCell)) → cells_held (set ss k xs) + length (get_or ss k []) ≤ cells_held ss + length xs
held-set zero xs [] = omega arith
held-set zero xs (x ∷ ss) = omega arith
held-set (suc k) xs [] = omega arith
held-set (suc k) xs (x ∷ ss) = let h = held-set k xs ss in omega arith

held_with : (v : ℕ) (xs : List IterCell) (ss : List (List IterCell)) → length xs ≤ suc (length (shelf v ss)) → cells_held (with_shelf v xs ss) ≤ suc (cells_held ss)
held_with zero xs ss h = omega arith
held_with (suc k) xs ss h = let g = held-set k xs ss in omega arith

module _ (v : ℕ) (s : Stacks) where
  abbrev Few : Stacks → Type 0
  Few t = cells_held t.shelves ≤ suc (cells_held s.shelves)

  few_top : {X : Type 0} (f : X → List X → Stacks) (xs : List X) → ((x : X) (ys : List X) → length ys ≤ length xs → Few (f x ys)) → Few (by_top s f xs)
  few_top f [] h = omega arith
  few_top f (x ∷ xs) h = h x xs (omega arith)

  by_data_lem : (q : List DataCell → Stacks) (n : ℕ → List DataCell → Stacks) → ((ds : List DataCell) → Few (q ds)) → ((a : ℕ) (ds : List DataCell) → Few (n a ds)) → (xs : List DataCell) → Few (by_data s q n xs)
  by_data_lem q n f g [] = omega arith
  by_data_lem q n f g (dat.Question ∷ xs) = f xs
  by_data_lem q n f g (dat.Number a ∷ xs) = g a xs

  by_iter_lem : (n : ℕ → List IterCell → Stacks) (p : ℕ → ℕ → List IterCell → Stacks) → ((a : ℕ) (cs : List IterCell) → Few (n a cs)) → ((a b : ℕ) (cs : List IterCell) → Few (p a b cs)) → (xs : List IterCell) → Few (by_iter s n p xs)
  by_iter_lem n p f g [] = omega arith
  by_iter_lem n p f g (iter.Number a ∷ xs) = f a xs
  by_iter_lem n p f g (iter.Pair a b ∷ xs) = g a b xs

  held_changed : (c : Change) → Few (changed c v s)
  held_changed give = by_data_lem _ _ (λ _. omega arith) (λ _ _. omega arith) s.datas
  held_changed take_back = by_data_lem _ _ (λ _. omega arith) (λ _ _. omega arith) s.datas
  held_changed ask = omega arith
  held_changed unask = few_top _ s.datas (λ _ _ _. omega arith)
  held_changed lower = by_data_lem _ _ (λ _. omega arith) (λ _ _. omega arith) s.datas
  held_changed raise = by_data_lem _ _ (λ _. omega arith) (λ a ds. few_top _ ds (λ _ _ _. omega arith)) s.datas
  held_changed (push l) = omega arith
  held_changed (pop l) = few_top _ s.letters (λ _ _ _. omega arith)
  held_changed pose = omega arith
  held_changed withdraw = few_top _ s.datas (λ _ _ _. omega arith)
  held_changed store = by_data_lem _ _ (λ _. omega arith) (λ _ _. omega arith) s.datas
  held_changed restore = by_iter_lem _ _ (λ _ _. omega arith) (λ _ _ _. omega arith) s.iters
  held_changed (start σ) = by_iter_lem _ _ (λ _ _. omega arith) (λ _ _ _. omega arith) s.iters
  held_changed (finish σ) = by_iter_lem _ _ (λ _ _. omega arith) (λ _ _ _. omega arith) s.iters
  held_changed (count_up σ) = by_iter_lem _ _ (λ _ _. omega arith) (λ _ _ _. omega arith) s.iters
  held_changed (count_down σ) = by_iter_lem _ _ (λ _ _. omega arith) (λ _ _ _. omega arith) s.iters
  held_changed shelve = few_top _ s.iters (λ c cs h. held_with v (c ∷ shelf v s.shelves) s.shelves (omega arith))
  held_changed unshelve = few_top _ (shelf v s.shelves) (λ c cs h. held_with v cs s.shelves (omega arith))

-- what is known of a token k steps after its opening

pub record Bounded (k : ℕ) (s : State) : Type 0 where
  pub from : s.from ≤ 3 * length s.nodes
  pub to : s.to ≤ 3 * length s.nodes
  pub letters : length s.stacks.letters ≤ s.rooms.letters
  pub iters : length s.stacks.iters ≤ s.rooms.iters
  pub datas : length s.stacks.datas ≤ s.rooms.datas
  pub low : Low s.stacks
  pub held : cells_held s.stacks.shelves ≤ k

none_shelved : (n : ℕ) → Every (Every LowIter) (replicate n [])
none_shelved zero = tt
none_shelved (suc n) = (tt, none_shelved n)

none_held : (n : ℕ) → cells_held {X = IterCell} (replicate n []) ≡ 0
none_held zero = refl
none_held (suc n) = let h = none_held n in omega arith

entrance_low : (ns : List Node) → entrance ns ≤ 3 * length ns
entrance_low ns = by (inside ns (link ns 0)) refl
  where
    by : (b : Bool) → inside ns (link ns 0) ≡ b → cond b (link ns 0) 0 ≤ 3 * length ns
    by true h = let low = inside_low ns (link ns 0) h in omega arith
    by false h = omega arith

pub bounded_open : (ns : List Node) (rs : Rooms) (d : DataCell) → LowData d → Bounded 0 (opened ns rs d)
bounded_open ns rs d h = by (eqb rs.datas 0) refl
  where
    by : (b : Bool) → eqb rs.datas 0 ≡ b → Bounded 0 (record { nodes = ns; from = 0; to = entrance ns; stacks = record { letters = []; iters = []; datas = cond b [] (d ∷ []); shelves = replicate 64 [] }; rooms = rs })
    by true e = record { from = omega arith; to = entrance_low ns; letters = omega arith; iters = omega arith; datas = omega arith; low = record { datas = tt; iters = tt; shelves = none_shelved 64 }; held = omega (arith, none_held 64) }
    by false e = record { from = omega arith; to = entrance_low ns; letters = omega arith; iters = omega arith; datas = let ne = eqb-false rs.datas 0 e in omega arith; low = record { datas = (h, tt); iters = tt; shelves = none_shelved 64 }; held = omega (arith, none_held 64) }

pub bounded_step : (k : ℕ) (s t : State) → Bounded k s → next s ≡ to t → Bounded (suc k) t
bounded_step k s t b e =
    let (r, h, same) = stepping s t e in
    let l = is_linked s.nodes (exit_to s r) (link s.nodes (exit_to s r)) h.goes in
    let here = inside_low s.nodes (exit_to s r) l.here in
    let there = inside_low s.nodes (link s.nodes (exit_to s r)) l.there in
    let room = (both (within s.rooms (value_to s) s.stacks) (within s.rooms (value_to s) (after s r)) h.room).1 in
    let (m, room₁) = both (leb (length (after s r).letters) s.rooms.letters) _ room in
    let (i, room₂) = both (leb (length (after s r).iters) s.rooms.iters) _ room₁ in
    let (d, room₃) = both (leb (length (after s r).datas) s.rooms.datas) _ room₂ in
    let tops = (both (small s.stacks) (small (after s r)) h.fit).1 in
    let count = held_changed (value_to s) s.stacks r.change in
    let before = b.held in
    subst (Bounded (suc k)) (sym same)
    (record {
      from = omega arith;
      to = omega arith;
      letters = leb-most _ _ m;
      iters = leb-most _ _ i;
      datas = leb-most _ _ d;
      low = low_changed (value_to s) s.stacks.letters s.stacks.shelves r.change s.stacks.iters s.stacks.datas b.low tops;
      held = omega arith;
    })
