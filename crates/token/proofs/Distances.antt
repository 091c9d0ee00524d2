-- The way from a question to its answer is the way from the answer to the question, turned.
use Rattle.std.proofs.Common.{◌≡◌, ℕ, zero, suc, Bool, true, false, cond, not, ◌&&◌, eqb, leb, List, [], ◌∷◌, length, replicate, Some, None, Option, sym, refl, ap, ◌∙◌, arith}
use Rattle.cells.specs.Ports.{Node, inside, link, linked}
use Rattle.machine.specs.declared.reasons.Reason.TheVariants.{Home, Unlinked}
use Rattle.machine.specs.Steps.{Next, to, ends, then, go}
use Rattle.machine.specs.Lawful.{go_none, go_first, go_split, go_back}
use Rattle.token.specs.declared.memory.DataCell.{DataCell}
use Rattle.token.specs.declared.memory.DataCell.TheVariants as dat
use Rattle.token.specs.State.{Rooms, State, turned, entrance, only_datas, opened, is_empty, all_empty, is_home, only, brings, number_in, number_of}
use Rattle.token.specs.Next.{next, within, value_to, exit_to, after, asked, row_at, leaves}
use Rattle.token.specs.Distance.{ToNumber, ToQuestion, DistanceLaw, DistancesAgree}
use Rattle.token.proofs.Tests.{both, eqb-equal, eqb_yes, eqb_no, leb-most, none_some, false_true, whether}
use Rattle.cells.proofs.Ports.{is_linked}
use Rattle.token.proofs.Steps.{stepping, ends_to}
use Rattle.token.proofs.Laws.{token_laws}
use Rattle.token.proofs.Kept.{way_keeps}

-- what it is to come home with one data cell
pub record HomeWith (d : DataCell) (s : State) : Type 0 where
  pub port : s.to ≡ 0
  pub letters : s.stacks.letters ≡ []
  pub iters : s.stacks.iters ≡ []
  pub shelves : all_empty s.stacks.shelves ≡ true
  pub datas : s.stacks.datas ≡ d ∷ []

is_empty_lem : {X : Type 0} (xs : List X) → is_empty xs ≡ true → xs ≡ []
is_empty_lem [] h = refl
is_empty_lem (x ∷ xs) h = false_true h

only_one : {X : Type 0} (xs : List X) (x : X) → only xs ≡ Some x → xs ≡ x ∷ []
only_one [] x h = none_some x h
only_one (y ∷ []) x h = let same : y ≡ x = cc in ap (λ z. z ∷ []) same
only_one (y ∷ (z ∷ zs)) x h = none_some x h

home_parts : (d : DataCell) (s : State) → is_home s ≡ true → s.stacks.datas ≡ d ∷ [] → HomeWith d s
home_parts d s h e =
    let (a, h₁) = both (eqb s.to 0) _ h in
    let (b, h₂) = both (is_empty s.stacks.letters) _ h₁ in
    let (c, f) = both (is_empty s.stacks.iters) (all_empty s.stacks.shelves) h₂ in
    record { port = eqb-equal _ _ a; letters = is_empty_lem _ b; iters = is_empty_lem _ c; shelves = f; datas = e }

cond_some : {X : Type 0} (b : Bool) (o : Option X) (x : X) → cond b o None ≡ Some x → (b ≡ true) × (o ≡ Some x)
cond_some true o x h = (refl, h)
cond_some false o x h = none_some x h

pub home_brings : (d : DataCell) (s : State) → brings s ≡ Some d → HomeWith d s
home_brings d s h =
    let (a, b) = cond_some (is_home s) (only s.stacks.datas) d h in
    home_parts d s a (only_one s.stacks.datas d b)

-- shelves that are all empty are as at the opening
all_empty_lem : {X : Type 0} (n : ℕ) (xs : List (List X)) → all_empty xs ≡ true → length xs ≡ n → xs ≡ replicate n []
all_empty_lem zero [] h e = refl
all_empty_lem (suc n) [] h e = absurd (omega arith)
all_empty_lem zero (x ∷ xs) h e = absurd (omega arith)
all_empty_lem (suc n) (x ∷ xs) h e =
    let (a, b) = both (is_empty x) (all_empty xs) h in
    let f : x ≡ [] = is_empty_lem x a in
    let g : xs ≡ replicate n [] = all_empty_lem n xs b (omega arith) in
    cc

-- a token that comes home with d by a step, turned, is the token opened with d
module _ (ns : List Node) (rs : Rooms) where
  at_home : (b : DataCell) (k : ℕ) (x w y : State) → x.nodes ≡ ns → x.rooms ≡ rs → length x.stacks.shelves ≡ 64 → go next k x ≡ to w → next w ≡ to y → HomeWith b y → turned y ≡ opened ns rs b
  at_home b k x w y en er es g n h =
      let (r, s, same) = stepping w y n in
      let kept = way_keeps k x w g in
      let here = way_keeps 1 w y (go_first next 0 w ∙ ap (λ o. then o (go next 0)) n ∙ go_none next y) in
      let nodes : y.nodes ≡ ns = here.nodes ∙ kept.nodes ∙ en in
      let rooms : y.rooms ≡ rs = here.rooms ∙ kept.rooms ∙ er in
      let count : length y.stacks.shelves ≡ 64 = here.shelves ∙ kept.shelves ∙ es in
      let l = is_linked w.nodes (exit_to w r) (link w.nodes (exit_to w r)) s.goes in
      let nw : w.nodes ≡ ns = kept.nodes ∙ en in
      let from : y.from ≡ exit_to w r = ap (λ z. z.from) same in
      let zero_end : link w.nodes (exit_to w r) ≡ 0 = sym (ap (λ z. z.to) same) ∙ h.port in
      let root : link ns 0 ≡ y.from = ap (λ m. link m 0) (sym nw) ∙ ap (link w.nodes) (sym zero_end) ∙ l.back ∙ sym from in
      let lies : inside ns (link ns 0) ≡ true = ap (inside ns) (root ∙ from) ∙ ap (λ m. inside m (exit_to w r)) (sym nw) ∙ l.here in
      let door : y.from ≡ entrance ns = sym root ∙ ap (λ t. cond t (link ns 0) 0) (sym lies) in
      let within-two = (both (within w.rooms (value_to w) w.stacks) _ s.room).1 in
      let few = (both (leb (length (after w r).datas) w.rooms.datas) _ (both (leb (length (after w r).iters) w.rooms.iters) _ (both (leb (length (after w r).letters) w.rooms.letters) _ within-two).1).1).0 in
      let one : length (after w r).datas ≡ 1 = ap length (sym (ap (λ z. z.stacks.datas) same) ∙ h.datas) in
      let some : eqb rs.datas 0 ≡ false =
      eqb_no rs.datas 0 (λ z.
      let low = leb-most (length (after w r).datas) w.rooms.datas few in
      let same_room : w.rooms.datas ≡ rs.datas = ap (λ m. m.datas) (kept.rooms ∙ er) in
      omega arith) in
      let stacks : y.stacks ≡ only_datas (cond (eqb rs.datas 0) [] (b ∷ [])) =
      (λ i. record { letters = h.letters i; iters = h.iters i; datas = h.datas i; shelves = all_empty_lem 64 y.stacks.shelves h.shelves count i })
      ∙ ap (λ t. only_datas (cond t [] (b ∷ []))) (sym some) in
      λ i. record { nodes = nodes i; from = h.port i; to = door i; stacks = stacks i; rooms = rooms i }

-- the way from a to b, turned, is the way from b to a
data_room : (ns : List Node) (rs : Rooms) (a b : DataCell) (t : Bool) → only (cond t [] (a ∷ [])) ≡ Some b → (t ≡ false) × (a ≡ b)
data_room ns rs a b true h = none_some b h
data_room ns rs a b false h = let same : a ≡ b = cc in (refl, same)

-- the token opened with a, turned, is home with a where there is data memory
turned_home : (ns : List Node) (rs : Rooms) (a : DataCell) → eqb rs.datas 0 ≡ false → brings (turned (opened ns rs a)) ≡ Some a
turned_home ns rs a h = ap (λ t. only (cond t [] (a ∷ []))) h

room_open : (ns : List Node) (rs : Rooms) (b : DataCell) (y : State) → HomeWith b y → turned y ≡ opened ns rs b → eqb rs.datas 0 ≡ false
room_open ns rs b y h e =
    whether (eqb rs.datas 0)
    (λ t.
    let none : b ∷ [] ≡ [] = sym h.datas ∙ ap (λ z. z.stacks.datas) e ∙ ap (λ u. cond u [] (b ∷ [])) t in
    absurd (let z : ◌≡◌ {A = ℕ} 1 0 = ap length none in omega arith))
    (λ f. f)

pub way_back : (ns : List Node) (rs : Rooms) (a b : DataCell) (d : ℕ) (y : State) → go next d (opened ns rs a) ≡ to y → HomeWith b y → (z : State) × (go next d (opened ns rs b) ≡ to z) × (brings z ≡ Some a)
way_back ns rs a b zero y g h =
    let same : opened ns rs a ≡ y = cc (go_none next (opened ns rs a)) in
    let home : entrance ns ≡ 0 = ap (λ z. z.to) same ∙ h.port in
    let (some, cell) = data_room ns rs a b (eqb rs.datas 0) (ap (λ z. only z.stacks.datas) same ∙ ap only h.datas) in (
      opened ns rs b,
      go_none next (opened ns rs b),
      ap (λ p. cond (eqb p 0 && true) (only (cond (eqb rs.datas 0) [] (b ∷ []))) None) home
          ∙ ap (λ t. only (cond t [] (b ∷ []))) some ∙ ap Some (sym cell),
    )
way_back ns rs a b (suc k) y g h =
    let (w, p, q) = go_split next k (opened ns rs a) y g in
    let e = at_home ns rs b k (opened ns rs a) w y refl refl refl p q h in (
      turned (opened ns rs a),
      ap (go next (suc k)) (sym e) ∙ go_back token_laws (suc k) (opened ns rs a) y g,
      turned_home ns rs a (room_open ns rs b y h e),
    )

-- a token that is home goes nowhere, so a way comes home once
home_ends : (s : State) → s.to ≡ 0 → next s ≡ ends Home
unfolding next
home_ends s h = ap (λ t. asked (not t) Home (asked (linked s.nodes s.from s.to) Unlinked (then (row_at s) (leaves s)))) (eqb_yes s.to 0 h)

first_step : {S : Type 0} (f : S → Next S) (n : ℕ) (x y : S) → go f (suc n) x ≡ to y → (z : S) × (f x ≡ to z) × (go f n z ≡ to y)
first_step {S = S} f n x y h = by (f x) refl (sym (go_first f n x) ∙ h)
  where
    by : (o : Next S) → f x ≡ o → then o (go f n) ≡ to y → (z : S) × (f x ≡ to z) × (go f n z ≡ to y)
    by (to z) e k = (z, e, k)
    by (ends w) e k = ends_to w y k

once : (d e : ℕ) (x y z : State) → go next d x ≡ to y → go next e x ≡ to z → next y ≡ ends Home → next z ≡ ends Home → (y ≡ z) × (d ≡ e)
once zero zero x y z g h p q = let same : y ≡ z = cc in (same, refl)
once zero (suc e) x y z g h p q =
    let (u, a, b) = first_step next e x z h in
    let same : x ≡ y = cc (go_none next x) in
    ends_to Home u (sym (ap next same ∙ p) ∙ a)
once (suc d) zero x y z g h p q =
    let (u, a, b) = first_step next d x y g in
    let same : x ≡ z = cc (go_none next x) in
    ends_to Home u (sym (ap next same ∙ q) ∙ a)
once (suc d) (suc e) x y z g h p q =
    let (u, a, b) = first_step next d x y g in
    let (v, c, f) = first_step next e x z h in
    let same : v ≡ u = cc in
    let (k, l) = once d e u y z b (ap (go next e) (sym same) ∙ f) p q in
    (k, ap suc l)

-- the two distances as ways home
number-brings : (n : ℕ) (o : Option DataCell) → number_in o ≡ Some n → o ≡ Some (dat.Number n)
number-brings n None h = none_some n h
number-brings n (Some dat.Question) h = none_some n h
number-brings n (Some (dat.Number m)) h = let same : m ≡ n = cc in ap (λ k. Some (dat.Number k)) same

with_number : (n : ℕ) (s : State) → number_of s ≡ Some n → HomeWith (dat.Number n) s
with_number n s h = home_brings (dat.Number n) s (number-brings n (brings s) h)

question_home : (s : State) → brings s ≡ Some dat.Question → (is_home s ≡ true) × (s.stacks.datas ≡ dat.Question ∷ [])
question_home s h =
    let (a, b) = cond_some (is_home s) (only s.stacks.datas) dat.Question h in
    (a, only_one s.stacks.datas dat.Question b)

same_cell : (a b : DataCell) (y z : State) → HomeWith a y → HomeWith b z → y ≡ z → a ≡ b
same_cell a b y z h k e =
    let lists : a ∷ [] ≡ b ∷ [] = sym h.datas ∙ ap (λ s. s.stacks.datas) e ∙ k.datas in
    let same : a ≡ b = cc in
    same

law : (ns : List Node) (rs : Rooms) → DistanceLaw ns rs
law ns rs = record {
  there = λ n d w.
      let (z, g, b) = way_back ns rs dat.Question (dat.Number n) d w.last w.way (with_number n w.last w.number) in
      let (h, q) = question_home z b in
      record { last = z; way = g; home = h; question = q };
  back = back;
  one = unique;
  once = λ m n d e v w. unique m n d e (back m d v) (back n e w);
}
  where
    back : (n d : ℕ) → ToQuestion ns rs n d → ToNumber ns rs n d
    back n d w =
        let (z, g, b) = way_back ns rs (dat.Number n) dat.Question d w.last w.way (home_parts dat.Question w.last w.home w.question) in
        record { last = z; way = g; number = ap number_in b }

    unique : (m n d e : ℕ) → ToNumber ns rs m d → ToNumber ns rs n e → (m ≡ n) × (d ≡ e)
    unique m n d e v w =
        let h = with_number m v.last v.number in
        let k = with_number n w.last w.number in
        let (same, far) = once d e (opened ns rs dat.Question) v.last w.last v.way w.way (home_ends v.last h.port) (home_ends w.last k.port) in
        let cell = same_cell (dat.Number m) (dat.Number n) v.last w.last h k same in
        let number : m ≡ n = cc in
        (number, far)

pub distances_agree : DistancesAgree
distances_agree = law
