-- What the parts of a step come to, put together.
use Rattle.std.proofs.Common.{◌≡◌, ℕ, zero, suc, ◌+◌, ◌/◌, ◌<◌, ◌≤◌, min, Bool, true, false, cond, not, ◌&&◌, eqb, ltb, leb, ◌⊎◌, List, [], ◌∷◌, length, get_or, set, Some, None, Ok, Err, Option, Result, sym, refl, ap, ◌∙◌, subst, inl, inr, arith}
use Rattle.std.proofs.lemmas.Bool.Decides.{nat_tests}
use Rattle.std.proofs.lemmas.List.{get_or-set_same}
use Rattle.cells.specs.declared.kinds.Kind.{Kind}
use Rattle.cells.specs.declared.kinds.Port.{Port}
use Rattle.cells.specs.declared.kinds.Port.TheVariants.{First, Second, Third}
use Rattle.cells.specs.Ports.{Node, node_at, kind_of, ShowsNode, KindNamed, place_of, port_at, inside, link, end, linked}
use Rattle.cells.proofs.Nodes.{linked_first, unlinked_first}
use Rattle.std.specs.Option.{MatchOption, ok_or, option_eq, unwrap_or}
use Rattle.std.specs.Bool.{then_some}
use Rattle.std.specs.Result.{is_ok}
use Rattle.cells.specs.declared.kinds.Cell.{Cell}
use Rattle.cells.specs.declared.kinds.UnknownKind.{UnknownKind}
use Rattle.machine.specs.declared.reasons.Reason.{Reason}
use Rattle.machine.specs.declared.reasons.Reason.TheVariants as reason
use Rattle.machine.specs.Steps.{to, ends, then}
use Rattle.stack.specs.declared.edits.Edit.{Edit}
use Rattle.stack.specs.declared.edits.Edit.TheVariants.{Keep, Push, Pop, Replace, Split, Join}
use Rattle.stack.specs.Edits.{edited, growth}
use Rattle.stack.specs.Shelving.{shelf, shelf_room}
use Rattle.stack.proofs.Holds.{held_fits, edited-length}
use Rattle.stack.proofs.Shelved.{shelf-fits}
use Rattle.token.specs.declared.memory.IterCell.{IterCell}
use Rattle.token.specs.Table.{Stacks, Row, table, is_shelf, changed}
use Rattle.token.specs.State.{Rooms, State, entrance}
use Rattle.token.specs.Next.{next, node_to, value_to, row_at, row_for, or_no_row, first_row, within, small, largest, asked, after, exit_to, gone, leaves}
use Rattle.token.proofs.Tests.{both, and_true, eqb_same, eqb_yes, eqb_no, leb_yes, leb-most, whether, false_true, none_some}
use Rattle.token.proofs.Steps.{to_row, on_yes}
use Rattle.token_machine.specs.declared.tokens.Token.{Token}
use Rattle.token_machine.specs.declared.passages.Passage.{Passage}
use Rattle.token_machine.specs.Passing.{shelves_after, passed, tops_of, LowTops, Passes, Found, WayOut, Roomy}
use Rattle.token_machine.specs.Tokens.{stacks_of, rooms_of}
use Rattle.token_machine.proofs.Deciding.{low_data, low_iter, high, Agrees, TooLarge, Ended}

-- heights before and after an edit

edit_least : {X : Type 0} (e : Edit X) (xs : List X) (n : ℕ) → length xs ≤ n → length (edited e xs) ≤ n → length xs + growth e ≤ n
edit_least Keep xs n h l = omega arith
edit_least (Push x) xs n h l = omega arith
edit_least Pop xs n h l = omega arith
edit_least (Replace x) xs n h l = omega arith
edit_least (Split u t) [] n h l = omega arith
edit_least (Split u t) (x ∷ xs) n h l = omega arith
edit_least (Join x) xs n h l = omega arith

shelf-after : (v : ℕ) (e : Edit IterCell) (s : Stacks) → (e ≡ Keep) ⊎ (is_shelf v s ≡ true) → shelf v (shelves_after v e s.shelves) ≡ edited e (shelf v s.shelves)
shelf-after v e s (inl h) = ap (λ f. shelf v (shelves_after v f s.shelves)) h ∙ sym (ap (λ f. edited f (shelf v s.shelves)) h)
shelf-after zero e s (inr h) = false_true h
shelf-after (suc k) e s (inr h) = by e
  where
    low : k < length s.shelves
    low = leb-most (suc k) (length s.shelves) (both (leb 1 (suc k)) (leb (suc k) (length s.shelves)) h).1

    at : (xs : List IterCell) → get_or (set s.shelves k xs) k [] ≡ xs
    at xs = get_or-set_same s.shelves k xs [] low

    by : (e : Edit IterCell) → shelf (suc k) (shelves_after (suc k) e s.shelves) ≡ edited e (shelf (suc k) s.shelves)
    by Keep = refl
    by (Push c) = at _
    by Pop = at _
    by (Replace c) = at _
    by (Split c d) = at _
    by (Join c) = at _

pub record Within (rs : Rooms) (v : ℕ) (s : Stacks) : Type 0 where
  pub letters : length s.letters ≤ rs.letters
  pub iters : length s.iters ≤ rs.iters
  pub datas : length s.datas ≤ rs.datas
  pub shelf : length (shelf v s.shelves) ≤ shelf_room rs.shelves v

pub is_within : (rs : Rooms) (v : ℕ) (s : Stacks) → within rs v s ≡ true → Within rs v s
is_within rs v s h =
    let (a, h₁) = both (leb (length s.letters) rs.letters) _ h in
    let (b, h₂) = both (leb (length s.iters) rs.iters) _ h₁ in
    let (c, d) = both (leb (length s.datas) rs.datas) (leb (length (shelf v s.shelves)) (shelf_room rs.shelves v)) h₂ in
    record { letters = leb-most _ _ a; iters = leb-most _ _ b; datas = leb-most _ _ c; shelf = leb-most _ _ d }

pub to_within : (rs : Rooms) (v : ℕ) (s : Stacks) → Within rs v s → within rs v s ≡ true
to_within rs v s h = and_true _ _ (leb_yes _ _ h.letters) (and_true _ _ (leb_yes _ _ h.iters) (and_true _ _ (leb_yes _ _ h.datas) (leb_yes _ _ h.shelf)))

-- a passage has room exactly if what it leaves is within the capacities
module _ (rs : Rooms) (v : ℕ) (m : Passage) (s : Stacks) (ok : (m.shelf ≡ Keep) ⊎ (is_shelf v s ≡ true)) where
  pub roomy_within : Roomy rs s v m → Within rs v (passed v m s)
  roomy_within h =
      let a = edited-length m.letters s.letters in
      let b = edited-length m.iters s.iters in
      let c = edited-length m.datas s.datas in
      let d = edited-length m.shelf (shelf v s.shelves) in
      let e = ap length (shelf-after v m.shelf s ok) in
      record { letters = omega (arith, h.letters); iters = omega (arith, h.iters); datas = omega (arith, h.datas); shelf = omega (arith, h.shelf) }

  pub within_roomy : Within rs v s → Within rs v (passed v m s) → Roomy rs s v m
  within_roomy h g =
      let e : length (edited m.shelf (shelf v s.shelves)) ≤ shelf_room rs.shelves v = subst (λ xs. length xs ≤ shelf_room rs.shelves v) (shelf-after v m.shelf s ok) g.shelf in
      record {
        letters = edit_least m.letters s.letters rs.letters h.letters g.letters;
        iters = edit_least m.iters s.iters rs.iters h.iters g.iters;
        datas = edit_least m.datas s.datas rs.datas h.datas g.datas;
        shelf = edit_least m.shelf (shelf v s.shelves) (shelf_room rs.shelves v) h.shelf e;
      }

-- a token's stacks are within their capacities
pub token_within : (t : Token) (v : ℕ) → Within (rooms_of t) v (stacks_of t)
token_within t v = record { letters = held_fits t.letters; iters = held_fits t.iters; datas = held_fits t.datas; shelf = shelf-fits t.shelves v }

-- a port of a linked pair is not the number that stands for none
pub below_absent : (ns : List Node) (p q : ℕ) → linked ns p q ≡ true → q ≡ 4294967295 → ⊥
unfolding linked inside
below_absent ns p q h e =
    let (a, h₁) = both (inside ns p) _ h in
    let (b, h₂) = both (inside ns q) _ h₁ in
    let (c, d) = both (not (eqb q 4294967295)) _ b in
    false_true (sym (ap not (eqb_yes q 4294967295 e)) ∙ c)

-- the six answers

pub no_home : (s : State) → s.to ≡ 0 → next s ≡ ends reason.Home
unfolding next
no_home s h = ap (λ t. asked (not t) reason.Home (asked (linked s.nodes s.from s.to) reason.Unlinked (then (row_at s) (leaves s)))) (eqb_yes s.to 0 h)

pub no_link : (s : State) → (s.to ≡ 0 → ⊥) → linked s.nodes s.from s.to ≡ false → next s ≡ ends reason.Unlinked
unfolding next
no_link s h l =
    ap (λ t. asked (not t) reason.Home (asked (linked s.nodes s.from s.to) reason.Unlinked (then (row_at s) (leaves s)))) (eqb_no s.to 0 h)
    ∙ ap (λ t. asked t reason.Unlinked (then (row_at s) (leaves s))) l

pub goes_on : (s : State) → (s.to ≡ 0 → ⊥) → linked s.nodes s.from s.to ≡ true → next s ≡ then (row_at s) (leaves s)
unfolding next
goes_on s h l =
    ap (λ t. asked (not t) reason.Home (asked (linked s.nodes s.from s.to) reason.Unlinked (then (row_at s) (leaves s)))) (eqb_no s.to 0 h)
    ∙ ap (λ t. asked t reason.Unlinked (then (row_at s) (leaves s))) l

no_row_at : (s : State) → (o : Option Kind) → (node_at s.nodes (node_to s)).kind ≡ o → row_for o (place_of s.to) (value_to s) s.stacks ≡ None → then (row_at s) (leaves s) ≡ ends reason.NoRow
no_row_at s o e h =
    ap (λ n. then n (leaves s)) (whether (eqb (node_to s) 0)
    (λ t. ap (λ b. cond b (ends reason.NoRow) (or_no_row (row_for (node_at s.nodes (node_to s)).kind (place_of s.to) (value_to s) s.stacks))) t)
    (λ f.
    ap (λ b. cond b (ends reason.NoRow) (or_no_row (row_for (node_at s.nodes (node_to s)).kind (place_of s.to) (value_to s) s.stacks))) f
    ∙ ap (λ k. or_no_row (row_for k (place_of s.to) (value_to s) s.stacks)) e ∙ ap or_no_row h))

pub no_kind : (s : State) → (node_at s.nodes (node_to s)).kind ≡ None → then (row_at s) (leaves s) ≡ ends reason.NoRow
unfolding row_for
no_kind s e = no_row_at s None e refl

pub no_cell : (s : State) (o : Option Cell) (w : Reason) → ShowsNode s.nodes s.to o → Err w ≡ ok_or o reason.NoRow → Found s (Err w)
no_cell s None w h e = let n : w ≡ reason.NoRow = cc in no_kind s (ap (λ n. n.kind) h) ∙ ap ends (sym n)
no_cell s (Some x) w h e = absurd (cc)

unnamed : (n : ℕ) (t : Result Kind UnknownKind) → KindNamed n t → false ≡ is_ok t → kind_of n ≡ None
unnamed n (Ok k) h e = false_true e
unnamed n (Err u) h e = h.0

-- the kind of the node that a cell shows
shown_kind : (s : State) (o : Option Cell) (x : Cell) → ShowsNode s.nodes s.to o → o ≡ Some x → (node_at s.nodes (node_to s)).kind ≡ kind_of x.kind
shown_kind s o x h e = ap (λ n. n.kind) (subst (ShowsNode s.nodes s.to) e h)

pub no_name : (s : State) (o : Option Cell) (x : Cell) (t : Result Kind UnknownKind) → ShowsNode s.nodes s.to o → o ≡ Some x → KindNamed x.kind t → false ≡ is_ok t → then (row_at s) (leaves s) ≡ ends reason.NoRow
no_name s o x t h e n f = no_kind s (shown_kind s o x h e ∙ unnamed x.kind t n f)

-- a node of a kind and a value, at which the token arrives
pub record Arrives (s : State) (k : Kind) (v : ℕ) : Type 0 where
  pub inner : node_to s ≡ 0 → ⊥
  pub kind : (node_at s.nodes (node_to s)).kind ≡ Some k
  pub value : v ≡ value_to s

pub arrives : (s : State) (o : Option Cell) (x : Cell) (t : Result Kind UnknownKind) (k : Kind) → (node_to s ≡ 0 → ⊥) → ShowsNode s.nodes s.to o → o ≡ Some x → KindNamed x.kind t → t ≡ Ok k → Arrives s k x.value
arrives s o x t k i h e n f = record {
  inner = i;
  kind = shown_kind s o x h e ∙ subst (KindNamed x.kind) f n;
  value = sym (ap (λ n. n.value) (subst (ShowsNode s.nodes s.to) e h));
}

at_node_lem : (s : State) (k : Kind) (v : ℕ) (r : Row) → Arrives s k v → first_row k (place_of s.to) v s.stacks table ≡ Some r → row_at s ≡ to r
at_node_lem s k v r a h = to_row s r (record {
  node = eqb_no (node_to s) 0 a.inner;
  kind = k;
  is = a.kind;
  found = subst (λ n. first_row k (place_of s.to) n s.stacks table ≡ Some r) a.value h;
})

pub passes : (s : State) (k : Kind) (v : ℕ) (m : Passage) → Arrives s k v → LowTops (tops_of v s.stacks) → v ≤ largest → Agrees k (place_of s.to) v s.stacks m → Passes s v m
passes s k v m a low most h = record {
  value = a.value;
  row = h.row;
  found = at_node_lem s k v h.row a h.found;
  exit = h.exit;
  change = ap (λ n. changed h.row.change n s.stacks) (sym a.value) ∙ h.change;
  low = and_true _ _ (low_data s.stacks.datas low.datum) (low_iter s.stacks.iters low.iter);
  lows = ap (λ n. small (changed h.row.change n s.stacks)) (sym a.value) ∙ h.lows low most;
  shelf = h.shelf;
}

large_ends : (s : State) (k : Kind) (v : ℕ) → Arrives s k v → Within s.rooms v s.stacks → TooLarge k (place_of s.to) v s.stacks → then (row_at s) (leaves s) ≡ ends reason.Overflow
large_ends s k v a w h =
    let r = h.row in
    let same : value_to s ≡ v = sym a.value in
    let before : within s.rooms (value_to s) s.stacks ≡ true = ap (λ n. within s.rooms n s.stacks) same ∙ to_within s.rooms v s.stacks w in
    let size : within s.rooms (value_to s) (after s r) ≡ true = ap (λ n. within s.rooms n (changed r.change n s.stacks)) same ∙ h.size s.rooms (to_within s.rooms v s.stacks w) in
    let large : small (after s r) ≡ false = ap (λ n. small (changed r.change n s.stacks)) same ∙ h.large in
    ap (λ n. then n (leaves s)) (at_node_lem s k v r a h.found)
    ∙ on_yes _ reason.Full _ (and_true _ _ before size)
    ∙ ap (λ t. asked t reason.Overflow (asked (linked s.nodes (exit_to s r) (link s.nodes (exit_to s r))) reason.Unlinked (to (gone s (exit_to s r) (after s r))))) (high (small s.stacks) (small (after s r)) large)

pub ended : (s : State) (k : Kind) (v : ℕ) (w : Reason) → Arrives s k v → Within s.rooms v s.stacks → Ended k (place_of s.to) v s.stacks w → then (row_at s) (leaves s) ≡ ends w
unfolding row_for
ended s k v reason.Home a i h = absurd h
ended s k v reason.NoRow a i h = no_row_at s (Some k) a.kind (subst (λ n. first_row k (place_of s.to) n s.stacks table ≡ None) a.value h)
ended s k v reason.Unlinked a i h = absurd h
ended s k v reason.Full a i h = absurd h
ended s k v reason.Overflow a i h = large_ends s k v a i h
ended s k v reason.WalkLimit a i h = absurd h
ended s k v reason.NoNumber a i h = absurd h
ended s k v reason.TooManySteps a i h = absurd h
ended s k v reason.ShortBuffer a i h = absurd h

-- the way on from a passage
module _ (s : State) (v : ℕ) (m : Passage) (p : Passes s v m) (w : Within s.rooms v s.stacks) where
  within_before : within s.rooms (value_to s) s.stacks ≡ true
  within_before = ap (λ n. within s.rooms n s.stacks) (sym p.value) ∙ to_within s.rooms v s.stacks w

  after_is : within s.rooms (value_to s) (after s p.row) ≡ within s.rooms v (passed v m s.stacks)
  after_is = ap (λ n. within s.rooms n (after s p.row)) (sym p.value) ∙ ap (within s.rooms v) p.change

  at_row : then (row_at s) (leaves s) ≡ leaves s p.row
  at_row = ap (λ n. then n (leaves s)) p.found

  exit_is : exit_to s p.row ≡ port_at (node_to s) m.exit
  exit_is = ap (port_at (node_to s)) p.exit

  pub no_room : (Roomy s.rooms s.stacks v m → ⊥) → then (row_at s) (leaves s) ≡ ends reason.Full
  no_room n =
      at_row
      ∙ ap (λ t. asked t reason.Full (asked (small s.stacks && small (after s p.row)) reason.Overflow (asked (linked s.nodes (exit_to s p.row) (link s.nodes (exit_to s p.row))) reason.Unlinked (to (gone s (exit_to s p.row) (after s p.row))))))
      (ap (λ t. t && within s.rooms (value_to s) (after s p.row)) within_before
      ∙ after_is
      ∙ whether (within s.rooms v (passed v m s.stacks)) (λ t. absurd (n (within_roomy s.rooms v m s.stacks p.shelf w (is_within s.rooms v (passed v m s.stacks) t)))) (λ f. f))

  to_exit : Roomy s.rooms s.stacks v m → then (row_at s) (leaves s) ≡ asked (linked s.nodes (exit_to s p.row) (link s.nodes (exit_to s p.row))) reason.Unlinked (to (gone s (exit_to s p.row) (after s p.row)))
  to_exit r =
      at_row
      ∙ on_yes _ reason.Full _ (and_true _ _ within_before (after_is ∙ to_within s.rooms v (passed v m s.stacks) (roomy_within s.rooms v m s.stacks p.shelf r)))
      ∙ on_yes _ reason.Overflow _ (and_true _ _ p.low p.lows)

  pub no_exit : Roomy s.rooms s.stacks v m → linked s.nodes (port_at (node_to s) m.exit) (link s.nodes (port_at (node_to s) m.exit)) ≡ false → then (row_at s) (leaves s) ≡ ends reason.Unlinked
  no_exit r h =
      to_exit r
      ∙ ap (λ t. asked t reason.Unlinked (to (gone s (exit_to s p.row) (after s p.row)))) (ap (λ e. linked s.nodes e (link s.nodes e)) exit_is ∙ h)

  pub goes_out : Roomy s.rooms s.stacks v m → linked s.nodes (port_at (node_to s) m.exit) (link s.nodes (port_at (node_to s) m.exit)) ≡ true → then (row_at s) (leaves s) ≡ to (gone s (port_at (node_to s) m.exit) (passed v m s.stacks))
  goes_out r h =
      to_exit r
      ∙ on_yes _ reason.Unlinked _ (ap (λ e. linked s.nodes e (link s.nodes e)) exit_is ∙ h)
      ∙ ap (λ e. to (gone s e (after s p.row))) exit_is
      ∙ ap (λ t. to (gone s (port_at (node_to s) m.exit) t)) p.change

-- the token after a passage, at the other end of its exit's link
pub landed : (s t : State) (v : ℕ) (m : Passage) (e l : ℕ) → t ≡ record { nodes = s.nodes; from = s.from; to = s.to; stacks = passed v m s.stacks; rooms = s.rooms } → e ≡ port_at (node_to s) m.exit → l ≡ link s.nodes (port_at (node_to s) m.exit) → gone s (port_at (node_to s) m.exit) (passed v m s.stacks) ≡ record { nodes = t.nodes; from = e; to = l; stacks = t.stacks; rooms = t.rooms }
landed s t v m e l h p q = λ i. record { nodes = (sym h i).nodes; from = sym p i; to = sym q i; stacks = (sym h i).stacks; rooms = (sym h i).rooms }

-- a port and the end of its link

pub end_is : (ns : List Node) (p x : ℕ) → Some x ≡ end ns p → x ≡ link ns p
end_is ns p x h = by (inside ns p) h
  where
    by : (b : Bool) → Some x ≡ cond b (Some (link ns p)) None → x ≡ link ns p
    by true e = ap (λ o. elim o [ Some y ↦ y | None ↦ x ]) e
    by false e = none_some x (sym e)

-- no port's number is past the largest
pub port_is : (n k : ℕ) (p : Port) → k < 4294967296 → n ≡ min (port_at k p) 18446744073709551615 → n ≡ port_at k p
port_is n k First h e = omega arith
port_is n k Second h e = omega arith
port_is n k Third h e = omega arith

-- a port is linked exactly if its link's own end is the port
pub way_is : (ns : List Node) (p x : ℕ) → Some x ≡ end ns p → option_eq eqb (end ns x) (Some p) ≡ linked ns p (link ns p)
way_is ns p x h =
    linked_first ns p x (ap (λ o. option_eq eqb o (Some x)) (sym h) ∙ eqb_same x)
    ∙ ap (linked ns p) (end_is ns p x h)

-- a port that lies in no cell
pub no_way : (ns : List Node) (p : ℕ) (o : Option ℕ) (w : Reason) → o ≡ end ns p → Err w ≡ ok_or o reason.Unlinked → WayOut ns p (Err w)
no_way ns p None w h e = (cc, sym (unlinked_first ns p (link ns p) (ap (λ o. option_eq eqb o (Some (link ns p))) (sym h))))
no_way ns p (Some x) w h e = cc

-- with no cell for port 0 there is none at all
no_end : (ns : List Node) (p : ℕ) (b : Bool) → None ≡ cond b (Some (link ns p)) None → b ≡ false
no_end ns p true e = none_some (link ns p) e
no_end ns p false e = refl

no_cells : (ns : List Node) → inside ns 0 ≡ false → 0 ≡ entrance ns
unfolding inside
no_cells ns h =
    let none : length ns ≡ 0 = empty (length ns) h in
    ap (λ b. cond b (link ns 0) 0) (sym (ap (λ n. not (eqb (link ns 0) 4294967295) && ltb (link ns 0 / 3) n) none ∙ never (not (eqb (link ns 0) 4294967295)) (link ns 0 / 3)))
  where
    empty : (n : ℕ) → ltb 0 n ≡ false → n ≡ 0
    empty n e = grind (arith, nat_tests)

    never : (b : Bool) (n : ℕ) → (b && ltb n 0) ≡ false
    never true n = grind (arith, nat_tests)
    never false n = refl

no_root : (ns : List Node) → None ≡ end ns 0 → 0 ≡ entrance ns
no_root ns h = no_cells ns (no_end ns 0 (inside ns 0) h)

-- the root's link where it lies in a cell, and else port 0
pub enters : (ns : List Node) (o r : Option ℕ) → o ≡ end ns 0 → MatchOption o (r ≡ None) (λ x. r ≡ then_some (inside ns x) x) → unwrap_or r 0 ≡ entrance ns
enters ns None r h e = ap (λ q. unwrap_or q 0) e ∙ no_root ns h
enters ns (Some x) r h e = ap (λ q. unwrap_or q 0) e ∙ by (inside ns x) ∙ ap (λ y. cond (inside ns y) y 0) (end_is ns 0 x h)
  where
    by : (b : Bool) → unwrap_or (then_some b x) 0 ≡ cond b x 0
    by true = refl
    by false = refl
