-- The table's facts, each computed over all rows, or shown once for each change.
use Rattle.std.proofs.Common.{◌≡◌, ℕ, zero, suc, ◌+◌, ◌-◌, ◌<◌, Bool, true, false, cond, not, ◌&&◌, eqb, ltb, leb, List, [], ◌∷◌, length, get_or, set, Some, sym, refl, ap, ◌∙◌, inl, inr, arith}
use Rattle.std.proofs.lemmas.Bool.Decides.{nat_tests}
use Rattle.std.proofs.lemmas.List.{length-set, get_or-set_same, set-set, set-get_or}
use Rattle.cells.specs.declared.kinds.Kind.{Kind}
use Rattle.cells.specs.declared.kinds.Kind.TheVariants as kind
use Rattle.cells.specs.declared.kinds.Port.{Port}
use Rattle.cells.specs.declared.kinds.Port.TheVariants.{First, Second, Third}
use Rattle.cells.specs.Ports.{kind_number, arity, offset}
use Rattle.token.specs.declared.memory.Letter.{Letter}
use Rattle.token.specs.declared.memory.Letter.TheVariants.{Left, Right}
use Rattle.token.specs.declared.memory.Side.{Side}
use Rattle.token.specs.declared.memory.Side.TheVariants as side
use Rattle.token.specs.declared.memory.IterCell.{IterCell}
use Rattle.token.specs.declared.memory.IterCell.TheVariants as iter
use Rattle.token.specs.declared.memory.DataCell.{DataCell}
use Rattle.token.specs.declared.memory.DataCell.TheVariants as dat
use Rattle.token.specs.Table.{Stacks, pair_on, count_of, kept_of, Top, Change, Row, table, fits, changed, is_shelf, is_question, by_letter, by_data, by_iter, by_top, anything, letter, question, questions, number, own, positive, over_question, iter_cell, iter_number, pair, started, counting, shelved, give, take_back, ask, unask, lower, raise, push, pop, pose, withdraw, store, restore, start, finish, count_up, count_down, shelve, unshelve}
use Rattle.token.specs.Next.{applies, first_row}
use Rattle.token.specs.Rows.{guard, reverse, Member, Undone, Taken, TableStands}
use Rattle.token.proofs.Tests.{false_true, none_some, eqb_same, eqb_yes, eqb-equal, eqb_apart, leb-most, both, and_true, not-true, whether}

-- the sign that a top sees, on one of the stacks: a letter, * or a number, a count of 0 or above; 0 where it sees none
abbrev looks_at : Top → ℕ
looks_at anything = 0
looks_at (letter l) = 1
looks_at question = 2
looks_at questions = 2
looks_at number = 2
looks_at own = 2
looks_at positive = 2
looks_at over_question = 2
looks_at iter_cell = 0
looks_at iter_number = 0
looks_at pair = 0
looks_at (started side.Left) = 3
looks_at (started side.Right) = 4
looks_at (counting side.Left) = 3
looks_at (counting side.Right) = 4
looks_at shelved = 0

abbrev sees : Top → ℕ
sees anything = 0
sees (letter Left) = 1
sees (letter Right) = 2
sees question = 1
sees questions = 1
sees number = 2
sees own = 2
sees positive = 2
sees over_question = 2
sees iter_cell = 0
sees iter_number = 0
sees pair = 0
sees (started σ) = 1
sees (counting σ) = 2
sees shelved = 0

abbrev letter_sign : List Letter → ℕ
letter_sign ls = by_letter 0 (λ _. 1) (λ _. 2) ls

abbrev data_sign : List DataCell → ℕ
data_sign ds = by_data 0 (λ _. 1) (λ _ _. 2) ds

abbrev count_sign : Side → List IterCell → ℕ
count_sign σ cs = by_iter 0 (λ _ _. 0) (λ a b _. cond (eqb (count_of σ a b) 0) 1 2) cs

abbrev sign : ℕ → Stacks → ℕ
sign n s =
    cond (eqb n 1) (letter_sign s.letters)
    (cond (eqb n 2) (data_sign s.datas)
    (cond (eqb n 3) (count_sign side.Left s.iters) (cond (eqb n 4) (count_sign side.Right s.iters) 0)))

on_letter : (l : Letter) (v : ℕ) (ls : List Letter) (cs : List IterCell) (ds : List DataCell) (ss : List (List IterCell)) → fits (letter l) v (record { letters = ls; iters = cs; datas = ds; shelves = ss }) ≡ true → letter_sign ls ≡ sees (letter l)
on_letter Left v [] cs ds ss h = false_true h
on_letter Left v (Left ∷ ls) cs ds ss h = refl
on_letter Left v (Right ∷ ls) cs ds ss h = false_true h
on_letter Right v [] cs ds ss h = false_true h
on_letter Right v (Left ∷ ls) cs ds ss h = false_true h
on_letter Right v (Right ∷ ls) cs ds ss h = refl

on_question : (q : List DataCell → Bool) (ds : List DataCell) → by_data false q (λ _ _. false) ds ≡ true → data_sign ds ≡ 1
on_question q [] h = false_true h
on_question q (dat.Question ∷ ds) h = refl
on_question q (dat.Number a ∷ ds) h = false_true h

on_number : (n : ℕ → List DataCell → Bool) (ds : List DataCell) → by_data false (λ _. false) n ds ≡ true → data_sign ds ≡ 2
on_number n [] h = false_true h
on_number n (dat.Question ∷ ds) h = false_true h
on_number n (dat.Number a ∷ ds) h = refl

on_started : (σ : Side) (cs : List IterCell) → by_iter false (λ _ _. false) (λ a b _. eqb (count_of σ a b) 0) cs ≡ true → count_sign σ cs ≡ 1
on_started σ [] h = false_true h
on_started σ (iter.Number a ∷ cs) h = false_true h
on_started σ (iter.Pair a b ∷ cs) h = ap (λ t. cond t 1 2) h

on_counting : (σ : Side) (cs : List IterCell) → by_iter false (λ _ _. false) (λ a b _. not (eqb (count_of σ a b) 0)) cs ≡ true → count_sign σ cs ≡ 2
on_counting σ [] h = false_true h
on_counting σ (iter.Number a ∷ cs) h = false_true h
on_counting σ (iter.Pair a b ∷ cs) h = ap (λ t. cond t 1 2) (not-true _ h)

seen : (t : Top) (v : ℕ) (s : Stacks) → fits t v s ≡ true → sign (looks_at t) s ≡ sees t
seen anything v s h = refl
seen (letter l) v s h = on_letter l v s.letters s.iters s.datas s.shelves h
seen question v s h = on_question (λ _. true) s.datas h
seen questions v s h = on_question _ s.datas h
seen number v s h = on_number (λ _ _. true) s.datas h
seen own v s h = on_number (λ a _. eqb a v) s.datas h
seen positive v s h = on_number (λ a _. not (eqb a 0)) s.datas h
seen over_question v s h = on_number _ s.datas h
seen iter_cell v s h = refl
seen iter_number v s h = refl
seen pair v s h = refl
seen (started side.Left) v s h = on_started side.Left s.iters h
seen (started side.Right) v s h = on_started side.Right s.iters h
seen (counting side.Left) v s h = on_counting side.Left s.iters h
seen (counting side.Right) v s h = on_counting side.Right s.iters h
seen shelved v s h = refl

-- two tops that see different signs at one place
abbrev apart : Top → Top → Bool
apart t u = eqb (looks_at t) (looks_at u) && not (eqb (sees t) (sees u))

never_both : (t u : Top) (v : ℕ) (s : Stacks) → apart t u ≡ true → fits t v s ≡ true → fits u v s ≡ true → ⊥
never_both t u v s h f g =
    let (same, differ) = both (eqb (looks_at t) (looks_at u)) (not (eqb (sees t) (sees u))) h in
    let e = ap (λ n. sign n s) (eqb-equal (looks_at t) (looks_at u) same) in
    eqb_apart (sees t) (sees u) (not-true _ differ) (sym (seen t v s f) ∙ e ∙ seen u v s g)

-- rows for one kind and port have tops that are apart
abbrev rivals : Row → Row → Bool
rivals r q = eqb (kind_number r.kind) (kind_number q.kind) && eqb (offset r.port) (offset q.port)

abbrev apart_from : Row → List Row → Bool
apart_from r [] = true
apart_from r (q ∷ qs) = cond (rivals r q) (apart r.top q.top) true && apart_from r qs

abbrev all_apart : List Row → Bool
all_apart [] = true
all_apart (r ∷ rs) = apart_from r rs && all_apart rs

table_apart : all_apart table ≡ true
table_apart = refl

apart_member : (r q : Row) (qs : List Row) → apart_from r qs ≡ true → Member q qs → cond (rivals r q) (apart r.top q.top) true ≡ true
apart_member r q [] h m = absurd m
apart_member r q (x ∷ qs) h (inl e) = ap (λ y. cond (rivals r y) (apart r.top y.top) true) e ∙ (both _ (apart_from r qs) h).0
apart_member r q (x ∷ qs) h (inr m) = apart_member r q qs (both (cond (rivals r x) (apart r.top x.top) true) _ h).1 m

-- what it is that a row applies
pub record Applies (k : Kind) (p : Port) (v : ℕ) (s : Stacks) (r : Row) : Type 0 where
  pub kind : kind_number r.kind ≡ kind_number k
  pub port : offset r.port ≡ offset p
  pub top : fits r.top v s ≡ true

pub applying : (k : Kind) (p : Port) (v : ℕ) (s : Stacks) (r : Row) → applies k p v s r ≡ true → Applies k p v s r
applying k p v s r h =
    let (a, b) = both (eqb (kind_number r.kind) (kind_number k)) (eqb (offset r.port) (offset p) && fits r.top v s) h in
    let (c, d) = both (eqb (offset r.port) (offset p)) (fits r.top v s) b in
    record { kind = eqb-equal _ _ a; port = eqb-equal _ _ c; top = d }

pub to_apply : (k : Kind) (p : Port) (v : ℕ) (s : Stacks) (r : Row) → Applies k p v s r → applies k p v s r ≡ true
to_apply k p v s r h = and_true _ _ (eqb_yes _ _ h.kind) (and_true _ _ (eqb_yes _ _ h.port) h.top)

clash : (k : Kind) (p : Port) (v : ℕ) (s : Stacks) (r q : Row) → cond (rivals r q) (apart r.top q.top) true ≡ true → applies k p v s r ≡ true → applies k p v s q ≡ true → ⊥
clash k p v s r q h a b =
    let f = applying k p v s r a in
    let g = applying k p v s q b in
    let e : rivals r q ≡ true = and_true _ _ (eqb_yes _ _ (f.kind ∙ sym g.kind)) (eqb_yes _ _ (f.port ∙ sym g.port)) in
    never_both r.top q.top v s (sym (ap (λ t. cond t (apart r.top q.top) true) e) ∙ h) f.top g.top

-- the row that applies is the one that is found
find : (k : Kind) (p : Port) (v : ℕ) (s : Stacks) (r : Row) (rs : List Row) → all_apart rs ≡ true → Member r rs → applies k p v s r ≡ true → first_row k p v s rs ≡ Some r
find k p v s r [] h m a = absurd m
find k p v s r (q ∷ qs) h (inl e) a =
    ap (λ t. cond t (Some q) (first_row k p v s qs)) (sym (ap (applies k p v s) e) ∙ a) ∙ ap Some (sym e)
find k p v s r (q ∷ qs) h (inr m) a =
    let (x, y) = both (apart_from q qs) (all_apart qs) h in
    let ih = find k p v s r qs y m a in
    whether (applies k p v s q)
    (λ b. absurd (clash k p v s q r (apart_member q r qs x m) b a))
    (λ b. ap (λ t. cond t (Some q) (first_row k p v s qs)) b ∙ ih)

found : (k : Kind) (p : Port) (v : ℕ) (s : Stacks) (r : Row) (rs : List Row) → first_row k p v s rs ≡ Some r → Member r rs × (applies k p v s r ≡ true)
found k p v s r [] e = none_some r e
found k p v s r (q ∷ qs) e =
    whether (applies k p v s q)
    (λ b.
    let same : q ≡ r = cc (sym (ap (λ t. cond t (Some q) (first_row k p v s qs)) b) ∙ e) in
    (inl (sym same), sym (ap (applies k p v s) same) ∙ b))
    (λ b.
    let (m, a) = found k p v s r qs (sym (ap (λ t. cond t (Some q) (first_row k p v s qs)) b) ∙ e) in
    (inr m, a))

pub find_row : (k : Kind) (p : Port) (v : ℕ) (s : Stacks) (r : Row) → Member r table → applies k p v s r ≡ true → first_row k p v s table ≡ Some r
find_row k p v s r = find k p v s r table table_apart

pub row-found : (k : Kind) (p : Port) (v : ℕ) (s : Stacks) (r : Row) → first_row k p v s table ≡ Some r → Member r table × (applies k p v s r ≡ true)
row-found k p v s r = found k p v s r table

pub alone : (k : Kind) (p : Port) (v : ℕ) (s : Stacks) (r q : Row) → Member r table → Member q table → applies k p v s r ≡ true → applies k p v s q ≡ true → r ≡ q
alone k p v s r q m n a b = cc (find_row k p v s r m a, find_row k p v s q n b)

-- each row stands beside its reverse
abbrev Beside : List Row → Type 0
Beside [] = Unit {0}
Beside (r ∷ []) = ⊥
Beside (r ∷ (q ∷ rs)) = (q ≡ reverse r) × ((r ≡ reverse q) × Beside rs)

table_beside : Beside table
table_beside = (refl, (refl, (refl, (refl, (refl, (refl, (refl, (refl, (refl, (refl, (refl, (refl, (refl, (refl, (refl, (refl, (refl, (refl, (refl, (refl, (refl, (refl, (refl, (refl, tt))))))))))))))))))))))))

beside : (r : Row) (rs : List Row) → Beside rs → Member r rs → Member (reverse r) rs × (reverse (reverse r) ≡ r)
beside r [] h m = absurd m
beside r (x ∷ []) h m = absurd h
beside r (x ∷ (y ∷ rs)) h (inl e) =
    let same : reverse r ≡ y = ap reverse e ∙ sym h.0 in
    (inr (inl same), ap reverse same ∙ sym h.1.0 ∙ sym e)
beside r (x ∷ (y ∷ rs)) h (inr (inl e)) =
    let same : reverse r ≡ x = ap reverse e ∙ sym h.1.0 in
    (inl same, ap reverse same ∙ sym h.0 ∙ sym e)
beside r (x ∷ (y ∷ rs)) h (inr (inr m)) =
    let (n, e) = beside r rs h.1.1 m in
    (inr (inr n), e)

pub reversed : (r : Row) → Member r table → Member (reverse r) table
reversed r m = (beside r table table_beside m).0

pub twice : (r : Row) → Member r table → reverse (reverse r) ≡ r
twice r m = (beside r table table_beside m).1

-- each row leaves by a port that its kind has
abbrev all_leave : List Row → Bool
all_leave [] = true
all_leave (r ∷ rs) = ltb (offset r.exit) (arity r.kind) && all_leave rs

table-leaves : all_leave table ≡ true
table-leaves = refl

leave : (r : Row) (rs : List Row) → all_leave rs ≡ true → Member r rs → ltb (offset r.exit) (arity r.kind) ≡ true
leave r [] h m = absurd m
leave r (q ∷ qs) h (inl e) = ap (λ x. ltb (offset x.exit) (arity x.kind)) e ∙ (both _ (all_leave qs) h).0
leave r (q ∷ qs) h (inr m) = leave r qs (both (ltb (offset q.exit) (arity q.kind)) _ h).1 m

below : (a b : ℕ) → ltb a b ≡ true → a < b
below a b h = grind (arith, nat_tests)

pub leaves : (r : Row) → Member r table → offset r.exit < arity r.kind
leaves r m = below _ _ (leave r table table-leaves m)

-- a change and its undoing, shown once for each change
abbrev stacks : List Letter → List IterCell → List DataCell → List (List IterCell) → Stacks
stacks ls cs ds ss = record { letters = ls; iters = cs; datas = ds; shelves = ss }

abbrev Undoes : Change → ℕ → List Letter → List IterCell → List DataCell → List (List IterCell) → Type 0
Undoes c v ls cs ds ss = fits (guard c) v (stacks ls cs ds ss) ≡ true → Undone c v (stacks ls cs ds ss)

not_zero : (a : ℕ) → not (eqb (a + 1) 0) ≡ true
not_zero a = grind (arith, nat_tests)

up_down : (a : ℕ) → a + 1 - 1 ≡ a
up_down a = omega arith

down_up : (a : ℕ) → not (eqb a 0) ≡ true → a - 1 + 1 ≡ a
down_up a h = grind (arith, nat_tests)

-- a stack by what a test has seen on its top: a question, a number, a number of turns, a pair
by_question : (t : List DataCell → Bool) (P : List DataCell → Type 0) → ((ds : List DataCell) → t ds ≡ true → P (dat.Question ∷ ds)) → (ds : List DataCell) → by_data false t (λ _ _. false) ds ≡ true → P ds
by_question t P f [] h = false_true h
by_question t P f (dat.Question ∷ ds) h = f ds h
by_question t P f (dat.Number a ∷ ds) h = false_true h

by_number : (t : ℕ → List DataCell → Bool) (P : List DataCell → Type 0) → ((a : ℕ) (ds : List DataCell) → t a ds ≡ true → P (dat.Number a ∷ ds)) → (ds : List DataCell) → by_data false (λ _. false) t ds ≡ true → P ds
by_number t P f [] h = false_true h
by_number t P f (dat.Question ∷ ds) h = false_true h
by_number t P f (dat.Number a ∷ ds) h = f a ds h

by_turns : (P : List IterCell → Type 0) → ((a : ℕ) (cs : List IterCell) → P (iter.Number a ∷ cs)) → (cs : List IterCell) → by_iter false (λ _ _. true) (λ _ _ _. false) cs ≡ true → P cs
by_turns P f [] h = false_true h
by_turns P f (iter.Number a ∷ cs) h = f a cs
by_turns P f (iter.Pair a b ∷ cs) h = false_true h

by_pair : (t : ℕ → ℕ → Bool) (P : List IterCell → Type 0) → ((a b : ℕ) (cs : List IterCell) → t a b ≡ true → P (iter.Pair a b ∷ cs)) → (cs : List IterCell) → by_iter false (λ _ _. false) (λ a b _. t a b) cs ≡ true → P cs
by_pair t P f [] h = false_true h
by_pair t P f (iter.Number a ∷ cs) h = false_true h
by_pair t P f (iter.Pair a b ∷ cs) h = f a b cs h

is_letter_lem : (l : Letter) (ls : List Letter) (v : ℕ) (cs : List IterCell) (ds : List DataCell) (ss : List (List IterCell)) → fits (letter l) v (stacks (l ∷ ls) cs ds ss) ≡ true
is_letter_lem Left ls v cs ds ss = refl
is_letter_lem Right ls v cs ds ss = refl

undo_pop : (l : Letter) (v : ℕ) (ls : List Letter) (cs : List IterCell) (ds : List DataCell) (ss : List (List IterCell)) → Undoes (pop l) v ls cs ds ss
undo_pop Left v [] cs ds ss h = false_true h
undo_pop Left v (Left ∷ ls) cs ds ss h = record { again = refl; back = refl }
undo_pop Left v (Right ∷ ls) cs ds ss h = false_true h
undo_pop Right v [] cs ds ss h = false_true h
undo_pop Right v (Left ∷ ls) cs ds ss h = false_true h
undo_pop Right v (Right ∷ ls) cs ds ss h = record { again = refl; back = refl }

-- a pair is known by its count and what it keeps
pair_of : (σ : Side) (a b n : ℕ) → n ≡ count_of σ a b → pair_on σ n (kept_of σ a b) ≡ iter.Pair a b
pair_of side.Left a b n e = ap (λ m. iter.Pair m b) e
pair_of side.Right a b n e = ap (λ m. iter.Pair a m) e

module _ (v : ℕ) (ls : List Letter) (cs : List IterCell) (ds : List DataCell) (ss : List (List IterCell)) where
  undo_give : Undoes give v ls cs ds ss
  undo_give h = by_question (λ _. true) (λ x. Undone give v (stacks ls cs x ss)) (λ es _. record { again = eqb_same v; back = refl }) ds h

  undo_take : Undoes take_back v ls cs ds ss
  undo_take h = by_number (λ a _. eqb a v) (λ x. Undone take_back v (stacks ls cs x ss)) (λ a es e. record { again = refl; back = ap (λ n. stacks ls cs (dat.Number n ∷ es) ss) (sym (eqb-equal a v e)) }) ds h

  undo_unask : Undoes unask v ls cs ds ss
  undo_unask h = by_question is_question (λ x. Undone unask v (stacks ls cs x ss)) (λ es e. record { again = e; back = refl }) ds h

  undo_lower : Undoes lower v ls cs ds ss
  undo_lower h = by_number (λ a _. not (eqb a 0)) (λ x. Undone lower v (stacks ls cs x ss)) (λ a es e. record { again = refl; back = ap (λ n. stacks ls cs (dat.Number n ∷ es) ss) (down_up a e) }) ds h

  undo_raise : Undoes raise v ls cs ds ss
  undo_raise h =
      by_number (λ _ es. is_question es) (λ x. Undone raise v (stacks ls cs x ss))
      (λ a. by_question (λ _. true) (λ x. Undone raise v (stacks ls cs (dat.Number a ∷ x) ss)) (λ es _. record { again = not_zero a; back = ap (λ n. stacks ls cs (dat.Number n ∷ (dat.Question ∷ es)) ss) (up_down a) }))
      ds h

  undo_withdraw : Undoes withdraw v ls cs ds ss
  undo_withdraw h = by_question (λ _. true) (λ x. Undone withdraw v (stacks ls cs x ss)) (λ es _. record { again = refl; back = refl }) ds h

  undo_store : Undoes store v ls cs ds ss
  undo_store h = by_number (λ _ _. true) (λ x. Undone store v (stacks ls cs x ss)) (λ a es _. record { again = refl; back = refl }) ds h

  undo_restore : Undoes restore v ls cs ds ss
  undo_restore h = by_turns (λ x. Undone restore v (stacks ls x ds ss)) (λ a es. record { again = refl; back = refl }) cs h

  undo_start : (σ : Side) → Undoes (start σ) v ls cs ds ss
  undo_start side.Left h = by_turns (λ x. Undone (start side.Left) v (stacks ls x ds ss)) (λ a es. record { again = refl; back = refl }) cs h
  undo_start side.Right h = by_turns (λ x. Undone (start side.Right) v (stacks ls x ds ss)) (λ a es. record { again = refl; back = refl }) cs h

  undo_finish : (σ : Side) → Undoes (finish σ) v ls cs ds ss
  undo_finish σ h =
      by_pair (λ a b. eqb (count_of σ a b) 0) (λ x. Undone (finish σ) v (stacks ls x ds ss))
      (λ a b es e. record { again = refl; back = ap (λ x. stacks ls (x ∷ es) ds ss) (pair_of σ a b 0 (sym (eqb-equal (count_of σ a b) 0 e))) }) cs h

  undo_up : (σ : Side) → Undoes (count_up σ) v ls cs ds ss
  undo_up side.Left h = by_pair (λ _ _. true) (λ x. Undone (count_up side.Left) v (stacks ls x ds ss)) (λ a b es _. record { again = not_zero a; back = ap (λ n. stacks ls (iter.Pair n b ∷ es) ds ss) (up_down a) }) cs h
  undo_up side.Right h = by_pair (λ _ _. true) (λ x. Undone (count_up side.Right) v (stacks ls x ds ss)) (λ a b es _. record { again = not_zero b; back = ap (λ n. stacks ls (iter.Pair a n ∷ es) ds ss) (up_down b) }) cs h

  undo_down : (σ : Side) → Undoes (count_down σ) v ls cs ds ss
  undo_down side.Left h = by_pair (λ a b. not (eqb a 0)) (λ x. Undone (count_down side.Left) v (stacks ls x ds ss)) (λ a b es e. record { again = refl; back = ap (λ n. stacks ls (iter.Pair n b ∷ es) ds ss) (down_up a e) }) cs h
  undo_down side.Right h = by_pair (λ a b. not (eqb b 0)) (λ x. Undone (count_down side.Right) v (stacks ls x ds ss)) (λ a b es e. record { again = refl; back = ap (λ n. stacks ls (iter.Pair a n ∷ es) ds ss) (down_up b e) }) cs h

-- a shelf's number names one of the shelves
place : (k : ℕ) (ss : List (List IterCell)) → (leb 1 (suc k) && leb (suc k) (length ss)) ≡ true → k < length ss
place k ss h = leb-most (suc k) (length ss) (both (leb 1 (suc k)) (leb (suc k) (length ss)) h).1

-- with other contents on a shelf there are as many shelves
still_shelf : (k : ℕ) (ss : List (List IterCell)) (x : List IterCell) → (leb 1 (suc k) && leb (suc k) (length ss)) ≡ true → (leb 1 (suc k) && leb (suc k) (length (set ss k x))) ≡ true
still_shelf k ss x h = ap (λ n. leb 1 (suc k) && leb (suc k) n) (length-set ss k x) ∙ h

undo_shelve : (v : ℕ) (ls : List Letter) (cs : List IterCell) (ds : List DataCell) (ss : List (List IterCell)) → Undoes shelve v ls cs ds ss
undo_shelve zero ls cs ds ss h = false_true h
undo_shelve (suc k) ls [] ds ss h = false_true (both (is_shelf (suc k) (stacks ls [] ds ss)) false h).1
undo_shelve (suc k) ls (c ∷ cs) ds ss h =
    let ok = (both (is_shelf (suc k) (stacks ls (c ∷ cs) ds ss)) true h).0 in
    let full = c ∷ get_or ss k [] in
    let e = get_or-set_same ss k full [] (place k ss ok) in
    record {
      again = and_true _ _ (still_shelf k ss full ok) (ap (by_top false (λ _ _. true)) e);
      back =
          ap (λ xs. by_top (stacks ls cs ds (set ss k full)) (λ x rest. stacks ls (x ∷ cs) ds (set (set ss k full) k rest)) xs) e
          ∙ ap (stacks ls (c ∷ cs) ds) (set-set ss k full (get_or ss k []) ∙ set-get_or ss k []);
    }

unshelved : (k : ℕ) (ls : List Letter) (cs : List IterCell) (ds : List DataCell) (ss : List (List IterCell)) (xs : List IterCell) → get_or ss k [] ≡ xs → Undoes unshelve (suc k) ls cs ds ss
unshelved k ls cs ds ss [] e h = false_true (sym (ap (by_top false (λ _ _. true)) e) ∙ (both (is_shelf (suc k) (stacks ls cs ds ss)) _ h).1)
unshelved k ls cs ds ss (x ∷ xs) e h =
    let ok = (both (is_shelf (suc k) (stacks ls cs ds ss)) _ h).0 in
    let s = stacks ls cs ds ss in
    let t = stacks ls (x ∷ cs) ds (set ss k xs) in
    let after : changed unshelve (suc k) s ≡ t = ap (λ ys. by_top s (λ y rest. stacks ls (y ∷ cs) ds (set ss k rest)) ys) e in
    let low = get_or-set_same ss k xs [] (place k ss ok) in
    record {
      again = ap (fits iter_cell (suc k)) after ∙ and_true _ _ (still_shelf k ss xs ok) refl;
      back =
          ap (changed shelve (suc k)) after
          ∙ ap (λ ys. stacks ls cs ds (set (set ss k xs) k (x ∷ ys))) low
          ∙ ap (stacks ls cs ds) (set-set ss k xs (x ∷ xs) ∙ ap (set ss k) (sym e) ∙ set-get_or ss k []);
    }

undo_unshelve : (v : ℕ) (ls : List Letter) (cs : List IterCell) (ds : List DataCell) (ss : List (List IterCell)) → Undoes unshelve v ls cs ds ss
undo_unshelve zero ls cs ds ss h = false_true h
undo_unshelve (suc k) ls cs ds ss h = unshelved k ls cs ds ss (get_or ss k []) refl h

undone_at : (c : Change) (v : ℕ) (ls : List Letter) (cs : List IterCell) (ds : List DataCell) (ss : List (List IterCell)) → Undoes c v ls cs ds ss
undone_at give v ls cs ds ss = undo_give v ls cs ds ss
undone_at take_back v ls cs ds ss = undo_take v ls cs ds ss
undone_at ask v ls cs ds ss = λ h. record { again = h; back = refl }
undone_at unask v ls cs ds ss = undo_unask v ls cs ds ss
undone_at lower v ls cs ds ss = undo_lower v ls cs ds ss
undone_at raise v ls cs ds ss = undo_raise v ls cs ds ss
undone_at (push l) v ls cs ds ss = λ h. record { again = is_letter_lem l ls v cs ds ss; back = refl }
undone_at (pop l) v ls cs ds ss = undo_pop l v ls cs ds ss
undone_at pose v ls cs ds ss = λ h. record { again = refl; back = refl }
undone_at withdraw v ls cs ds ss = undo_withdraw v ls cs ds ss
undone_at store v ls cs ds ss = undo_store v ls cs ds ss
undone_at restore v ls cs ds ss = undo_restore v ls cs ds ss
undone_at (start σ) v ls cs ds ss = undo_start v ls cs ds ss σ
undone_at (finish σ) v ls cs ds ss = undo_finish v ls cs ds ss σ
undone_at (count_up σ) v ls cs ds ss = undo_up v ls cs ds ss σ
undone_at (count_down σ) v ls cs ds ss = undo_down v ls cs ds ss σ
undone_at shelve v ls cs ds ss = undo_shelve v ls cs ds ss
undone_at unshelve v ls cs ds ss = undo_unshelve v ls cs ds ss

pub undone : (c : Change) (v : ℕ) (s : Stacks) → fits (guard c) v s ≡ true → Undone c v s
undone c v s h = undone_at c v s.letters s.iters s.datas s.shelves h

-- stacks on which some row is found at each port, with a number on i or a pair
abbrev ready : IterCell → Stacks
ready c = stacks (Left ∷ []) (c ∷ []) (dat.Question ∷ (dat.Question ∷ [])) ((c ∷ []) ∷ [])

taken_by : (k : Kind) (p : Port) (c : IterCell) (r : Row) → first_row k p 1 (ready c) table ≡ Some r → Taken k p
taken_by k p c r e = let (m, a) = row-found k p 1 (ready c) r e in record { value = 1; stacks = ready c; row = r; listed = m; taken = a }

everywhere : (k : Kind) (p : Port) → (k ≡ kind.Root → ⊥) → offset p < arity k → Taken k p
everywhere kind.Root p h l = absurd (h refl)
everywhere kind.Number First h l = taken_by kind.Number First (iter.Number 0) _ refl
everywhere kind.Number Second h l = absurd (omega arith)
everywhere kind.Number Third h l = absurd (omega arith)
everywhere kind.Successor First h l = taken_by kind.Successor First (iter.Number 0) _ refl
everywhere kind.Successor Second h l = taken_by kind.Successor Second (iter.Number 0) _ refl
everywhere kind.Successor Third h l = absurd (omega arith)
everywhere kind.Multiplexer First h l = taken_by kind.Multiplexer First (iter.Number 0) _ refl
everywhere kind.Multiplexer Second h l = taken_by kind.Multiplexer Second (iter.Number 0) _ refl
everywhere kind.Multiplexer Third h l = taken_by kind.Multiplexer Third (iter.Number 0) _ refl
everywhere kind.Iterator First h l = taken_by kind.Iterator First (iter.Number 0) _ refl
everywhere kind.Iterator Second h l = taken_by kind.Iterator Second (iter.Number 0) _ refl
everywhere kind.Iterator Third h l = taken_by kind.Iterator Third (iter.Number 0) _ refl
everywhere kind.LeftCounter First h l = taken_by kind.LeftCounter First (iter.Pair 0 0) _ refl
everywhere kind.LeftCounter Second h l = taken_by kind.LeftCounter Second (iter.Number 0) _ refl
everywhere kind.LeftCounter Third h l = taken_by kind.LeftCounter Third (iter.Pair 0 0) _ refl
everywhere kind.RightCounter First h l = taken_by kind.RightCounter First (iter.Pair 0 0) _ refl
everywhere kind.RightCounter Second h l = taken_by kind.RightCounter Second (iter.Number 0) _ refl
everywhere kind.RightCounter Third h l = taken_by kind.RightCounter Third (iter.Pair 0 0) _ refl
everywhere kind.Transfer First h l = taken_by kind.Transfer First (iter.Number 0) _ refl
everywhere kind.Transfer Second h l = taken_by kind.Transfer Second (iter.Number 0) _ refl
everywhere kind.Transfer Third h l = absurd (omega arith)

pub table_stands : TableStands
table_stands = record { rows = refl; everywhere = everywhere; alone = alone; reversed = reversed; twice = twice; undone = undone; leaves = leaves }
