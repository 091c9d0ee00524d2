-- What no step changes: the nodes, the memory sizes and the number of shelves.
use Rattle.std.proofs.Common.{◌≡◌, ℕ, zero, suc, List, [], ◌∷◌, length, refl, ap, ◌∙◌}
use Rattle.std.proofs.lemmas.List.{length-set}
use Rattle.machine.specs.Steps.{to, go}
use Rattle.machine.specs.Lawful.{go_none, go_split}
use Rattle.stack.specs.Shelving.{with_shelf}
use Rattle.token.specs.declared.memory.IterCell.{IterCell}
use Rattle.token.specs.declared.memory.IterCell.TheVariants as iter
use Rattle.token.specs.declared.memory.DataCell.{DataCell}
use Rattle.token.specs.declared.memory.DataCell.TheVariants as dat
use Rattle.token.specs.Table.{Stacks, Change, by_data, by_iter, by_top, changed, give, take_back, ask, unask, lower, raise, push, pop, pose, withdraw, store, restore, start, finish, count_up, count_down, shelve, unshelve}
use Rattle.token.specs.State.{State}
use Rattle.token.specs.Next.{next, value_to}
use Rattle.token.proofs.Steps.{stepping}

-- what holds at each case of a top holds
by_data_lem : {A : Type 0} (P : A → Type 0) (z : A) (q : List DataCell → A) (n : ℕ → List DataCell → A) → P z → ((ds : List DataCell) → P (q ds)) → ((a : ℕ) (ds : List DataCell) → P (n a ds)) → (xs : List DataCell) → P (by_data z q n xs)
by_data_lem P z q n a b c [] = a
by_data_lem P z q n a b c (dat.Question ∷ xs) = b xs
by_data_lem P z q n a b c (dat.Number m ∷ xs) = c m xs

by_iter_lem : {A : Type 0} (P : A → Type 0) (z : A) (n : ℕ → List IterCell → A) (p : ℕ → ℕ → List IterCell → A) → P z → ((a : ℕ) (cs : List IterCell) → P (n a cs)) → ((a b : ℕ) (cs : List IterCell) → P (p a b cs)) → (xs : List IterCell) → P (by_iter z n p xs)
by_iter_lem P z n p a b c [] = a
by_iter_lem P z n p a b c (iter.Number m ∷ xs) = b m xs
by_iter_lem P z n p a b c (iter.Pair m k ∷ xs) = c m k xs

by_top_lem : {A X : Type 0} (P : A → Type 0) (z : A) (f : X → List X → A) → P z → ((x : X) (xs : List X) → P (f x xs)) → (xs : List X) → P (by_top z f xs)
by_top_lem P z f a b [] = a
by_top_lem P z f a b (x ∷ xs) = b x xs

with_shelf_length : (v : ℕ) (cs : List IterCell) (ss : List (List IterCell)) → length (with_shelf v cs ss) ≡ length ss
with_shelf_length zero cs ss = refl
with_shelf_length (suc k) cs ss = length-set ss k cs

abbrev AsMany : Stacks → Stacks → Type 0
AsMany s t = length t.shelves ≡ length s.shelves

-- a change leaves as many shelves as there were
as_many : (c : Change) (v : ℕ) (s : Stacks) → AsMany s (changed c v s)
as_many give v s = by_data_lem (AsMany s) _ _ _ refl (λ _. refl) (λ _ _. refl) s.datas
as_many take_back v s = by_data_lem (AsMany s) _ _ _ refl (λ _. refl) (λ _ _. refl) s.datas
as_many ask v s = refl
as_many unask v s = by_top_lem (AsMany s) _ _ refl (λ _ _. refl) s.datas
as_many lower v s = by_data_lem (AsMany s) _ _ _ refl (λ _. refl) (λ _ _. refl) s.datas
as_many raise v s = by_data_lem (AsMany s) _ _ _ refl (λ _. refl) (λ a ds. by_top_lem (AsMany s) _ _ refl (λ _ _. refl) ds) s.datas
as_many (push l) v s = refl
as_many (pop l) v s = by_top_lem (AsMany s) _ _ refl (λ _ _. refl) s.letters
as_many pose v s = refl
as_many withdraw v s = by_top_lem (AsMany s) _ _ refl (λ _ _. refl) s.datas
as_many store v s = by_data_lem (AsMany s) _ _ _ refl (λ _. refl) (λ _ _. refl) s.datas
as_many restore v s = by_iter_lem (AsMany s) _ _ _ refl (λ _ _. refl) (λ _ _ _. refl) s.iters
as_many (start σ) v s = by_iter_lem (AsMany s) _ _ _ refl (λ _ _. refl) (λ _ _ _. refl) s.iters
as_many (finish σ) v s = by_iter_lem (AsMany s) _ _ _ refl (λ _ _. refl) (λ _ _ _. refl) s.iters
as_many (count_up σ) v s = by_iter_lem (AsMany s) _ _ _ refl (λ _ _. refl) (λ _ _ _. refl) s.iters
as_many (count_down σ) v s = by_iter_lem (AsMany s) _ _ _ refl (λ _ _. refl) (λ _ _ _. refl) s.iters
as_many shelve v s = by_top_lem (AsMany s) _ _ refl (λ c cs. with_shelf_length v _ s.shelves) s.iters
as_many unshelve v s = by_top_lem (AsMany s) _ _ refl (λ c cs. with_shelf_length v cs s.shelves) _

pub record Kept (s t : State) : Type 0 where
  pub nodes : t.nodes ≡ s.nodes
  pub rooms : t.rooms ≡ s.rooms
  pub shelves : length t.stacks.shelves ≡ length s.stacks.shelves

step_keeps : (s t : State) → next s ≡ to t → Kept s t
step_keeps s t h =
    let (r, _, same) = stepping s t h in
    record {
      nodes = ap (λ x. x.nodes) same;
      rooms = ap (λ x. x.rooms) same;
      shelves = ap (λ x. length x.stacks.shelves) same ∙ as_many r.change (value_to s) s.stacks;
    }

pub way_keeps : (n : ℕ) (s t : State) → go next n s ≡ to t → Kept s t
way_keeps zero s t h =
    let same : t ≡ s = cc (go_none next s) in
    record { nodes = ap (λ x. x.nodes) same; rooms = ap (λ x. x.rooms) same; shelves = ap (λ x. length x.stacks.shelves) same }
way_keeps (suc n) s t h =
    let (u, a, b) = go_split next n s t h in
    let k = way_keeps n s u a in
    let l = step_keeps u t b in
    record { nodes = l.nodes ∙ k.nodes; rooms = l.rooms ∙ k.rooms; shelves = l.shelves ∙ k.shelves }
