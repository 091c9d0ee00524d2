-- What the shelves hold, shelf by shelf.
use Rattle.std.proofs.Common.{◌≡◌, ℕ, zero, suc, ◌+◌, ◌-◌, ◌*◌, ◌/◌, ◌<◌, ◌≤◌, min, true, false, cond, ltb, leb, List, [], ◌∷◌, reverse, length, get_or, map, take, drop, set, replicate, Ok, Err, Result, sym, refl, ap, ◌∙◌, inl, inr, arith}
use borrow.Rule.Slice.PartMut.{put_mid, same_len_mid}
use Rattle.std.specs.List.{between, sum}
use Rattle.std.proofs.lemmas.List.Elements.{All-from_get_or}
use Rattle.std.proofs.lemmas.List.Sums.{sum_by-cons, sum_by-le}
use Rattle.std.proofs.lemmas.Bool.Decides.{nat_tests, leb_tells}
use Rattle.std.proofs.lemmas.List.{get_or_past, get_or-set_same, get_or-set_other, get_or-replicate, get_or-map, length-map, ext_get_or, take-take, nil_from_length}
use Rattle.machine.specs.declared.reasons.Reason.{Reason}
use Rattle.stack.specs.declared.edits.Edit.{Edit}
use Rattle.stack.specs.declared.edits.Edit.TheVariants.{Keep, Push, Pop, Replace, Split, Join}
use Rattle.stack.specs.Cells.{stacked, slot_room}
use Rattle.stack.specs.Stacks.{held, room}
use Rattle.stack.specs.declared.stacks.Stack.{Stack}
use Rattle.stack.specs.Edits.{edited, rest_of, growth, Asked, Answered}
use Rattle.stack.specs.Shelving.{tabulate, slot, shelved, shelves, complete, shelf, with_shelf, shelf_room, cells_held, ShelfAnswered, ShelfPlace}
use Rattle.stack.specs.declared.shelving.Shelves.{Shelves}
use Rattle.stack.proofs.Stacked.{stacked-count, stacked_none}
use Rattle.stack.proofs.Tables.{tabulate-length, tabulate_at, tabulate-set, tabulate_constant}
use Rattle.stack.proofs.Putting.{with_shelf_same}
use Rattle.stack.proofs.Slots.{room_in, room_out, slot_in, slot-length, slot_same, slot_other}

-- there are 64 of them
pub shelved-length : {X : Type 0} (hs : List ℕ) (xs : List X) → length (shelved hs xs) ≡ 64
unfolding shelved
shelved-length hs xs = tabulate-length 64 (λ k. stacked (get_or hs k 0) (slot k xs))

pub shelved_at : {X : Type 0} (hs : List ℕ) (xs : List X) (k : ℕ) → k < 64 → get_or (shelved hs xs) k [] ≡ stacked (get_or hs k 0) (slot k xs)
unfolding shelved
shelved_at hs xs k l = tabulate_at 64 (λ i. stacked (get_or hs i 0) (slot i xs)) k [] l

-- a shelf holds as many cells as its height says
pub shelved-count : {X : Type 0} (s : Shelves X) (k : ℕ) → k < 64 → length (get_or (shelves s) k []) ≡ get_or s.heights k 0
unfolding shelves
shelved-count s k l =
    let hs = s.heights in
    let xs = s.cells.now in
    let f : get_or hs k 0 ≤ slot_room (length xs) k = s.fits k in
    let e = ap length (shelved_at hs xs k l) ∙ stacked-count (slot k xs) (get_or hs k 0) in
    elim (leb_tells (64 * k + 64) (length xs)) [
      | inl p ↦ omega (arith, e, room_in (length xs) k p.1, ap length (slot_in k xs p.1), slot-length k xs p.1)
      | inr p ↦ omega (arith, e, room_out (length xs) k p.1)
    ]

-- after a write to the cells of one, with another height of it
pub shelved-put : {X : Type 0} (hs : List ℕ) (xs ys : List X) (k n : ℕ) → k < 64 → length hs ≡ 64 → 64 * k + 64 ≤ length xs → length ys ≡ 64 → length (put_mid (64 * k) (64 * k + 64 - 64 * k) xs ys) ≡ length xs → shelved (set hs k n) (put_mid (64 * k) (64 * k + 64 - 64 * k) xs ys) ≡ set (shelved hs xs) k (stacked n ys)
unfolding shelved
shelved-put hs xs ys k n l hl h yl zl =
    let zs = put_mid (64 * k) (64 * k + 64 - 64 * k) xs ys in
    tabulate-set 64 (λ i. stacked (get_or hs i 0) (slot i xs)) (λ i. stacked (get_or (set hs k n) i 0) (slot i zs)) k l
    (λ i m ne.
    ap (λ a. stacked a (slot i zs)) (get_or-set_other hs k i n 0 ne)
    ∙ ap (stacked (get_or hs i 0)) (slot_other i k xs ys ne h yl zl))
    ∙ ap (set (tabulate 64 (λ i. stacked (get_or hs i 0) (slot i xs))) k)
    (ap (λ a. stacked a (slot k zs)) (get_or-set_same hs k n 0 (omega arith)) ∙ ap (stacked n) (slot_same k xs ys h yl zl))

pub shelved_none : {X : Type 0} (xs : List X) → shelved (replicate 64 0) xs ≡ replicate 64 []
unfolding shelved
shelved_none xs = tabulate_constant 64 (λ k. stacked (get_or (replicate 64 0) k 0) (slot k xs)) [] (λ i l. stacked_none (slot i xs) (get_or (replicate 64 0) i 0) (get_or-replicate 64 i 0 0 l))

-- the room of the shelf after the first k
pub rooms_agree : (n k : ℕ) → k < 64 → shelf_room (min 64 (n / 64)) (suc k) ≡ slot_room n k
rooms_agree n k l =
    elim (leb_tells (64 * k + 64) n) [
      | inl p ↦ let b : ltb k (min 64 (n / 64)) ≡ true = grind (arith, nat_tests, p.1) in ap (λ t. cond t 64 0) b ∙ sym (room_in n k p.1)
      | inr p ↦ let b : ltb k (min 64 (n / 64)) ≡ false = grind (arith, nat_tests, p.1) in ap (λ t. cond t 64 0) b ∙ sym (room_out n k p.1)
    ]

room_small : (n k : ℕ) → slot_room n k ≤ 64
room_small n k = elim (leb (64 * k + 64) n) as (λ b. cond b 64 0 ≤ 64) [ true ↦ omega arith | false ↦ omega arith ]

-- at first nothing is held
pub none-fits : {X : Type 0} (xs : List X) (k : ℕ) → get_or (replicate 64 0) k 0 ≤ slot_room (length xs) k
none-fits xs k =
    elim (leb_tells 64 k) [
      | inl p ↦ omega (arith, get_or_past {X = ℕ} (replicate 64 0) k 0 p.1)
      | inr p ↦ omega (arith, get_or-replicate {A = ℕ} 64 k 0 0 p.1)
    ]

-- an edit of one shelf, as one of the stack that it is
answered : {X : Type 0} (e : Edit X) (r : Result Unit Reason) (xs ys : List X) (n m : ℕ) (ls ms : List (List X)) (j : ℕ) → xs ≡ shelf j ls → n ≡ shelf_room m j → ms ≡ with_shelf j ys ls → Answered xs n e r ys → ShelfAnswered ls m j e r ms
answered e (Ok _) xs ys n m ls ms j was size is a = (omega (arith, ap length was, a.0), is ∙ ap (λ zs. with_shelf j zs ls) (a.1 ∙ ap (edited e) was))
answered e (Err w) xs ys n m ls ms j was size is a = (a.0, omega (arith, ap length was, a.1), is ∙ ap (λ zs. with_shelf j zs ls) (a.2 ∙ was) ∙ with_shelf_same j ls)

-- a shelf holds no more than it has room for
pub shelf-fits : {X : Type 0} (s : Shelves X) (j : ℕ) → length (shelf j (shelves s)) ≤ shelf_room (complete s) j
unfolding shelves complete
shelf-fits s zero = omega arith
shelf-fits s (suc k) =
    let n = length s.cells.now in
    let f : get_or s.heights k 0 ≤ slot_room n k = s.fits k in
    elim (leb_tells 64 k) [
      | inl p ↦ omega (arith, ap length (get_or_past (shelves s) k [] (omega (arith, p.1, shelved-length s.heights s.cells.now))))
      | inr p ↦ omega (arith, shelved-count s k p.1, rooms_agree n k p.1)
    ]

pub shelves-length : {X : Type 0} (s : Shelves X) → length (shelves s) ≡ 64
unfolding shelves
shelves-length s = shelved-length s.heights s.cells.now

-- the cells that all the shelves hold, counted by their heights
cells_held_sum : {X : Type 0} (ls : List (List X)) → cells_held ls ≡ sum (map (λ xs. length xs) ls)
cells_held_sum [] = refl
cells_held_sum (xs ∷ ls) = omega (arith, cells_held_sum ls, sum_by-cons (λ n. n) (length xs) (map (λ ys. length ys) ls))

pub cells_held_heights : {X : Type 0} (s : Shelves X) → length s.heights ≡ 64 → cells_held (shelves s) ≡ sum s.heights
cells_held_heights s hl =
    let l = shelves-length s in
    let m : length (map (λ xs. length xs) (shelves s)) ≡ 64 = length-map (shelves s) (λ xs. length xs) ∙ l in
    cells_held_sum (shelves s)
    ∙ ap sum (ext_get_or 0 (map (λ xs. length xs) (shelves s)) s.heights (m ∙ sym hl)
    (λ i h. get_or-map (λ xs. length xs) (shelves s) i [] 0 (omega arith) ∙ shelved-count s i (omega arith)))

-- the heights come to no more than all the cells
pub heights_sum : {X : Type 0} (s : Shelves X) → length s.heights ≡ 64 → sum s.heights ≤ 4096
heights_sum s hl = omega (arith, sum_by-le (λ n. n) 64 s.heights (All-from_get_or (λ n. n ≤ 64) s.heights 0 (λ i h. height_small i)))
  where
    height_small : (i : ℕ) → get_or s.heights i 0 ≤ 64
    height_small i = let f : get_or s.heights i 0 ≤ slot_room (length s.cells.now) i = s.fits i in omega (arith, room_small (length s.cells.now) i)

-- a shelf that misses a cell holds nothing
pub shelf_missing : {X : Type 0} (s : Shelves X) (j : ℕ) → shelf_room (complete s) j ≡ 0 → shelf j (shelves s) ≡ []
shelf_missing s j e = nil_from_length (shelf j (shelves s)) (omega (arith, shelf-fits s j))

-- an edit that takes no cell leaves nothing of nothing
edited_nothing : {X : Type 0} (e : Edit X) → growth e ≡ 0 → edited e [] ≡ []
edited_nothing Keep h = refl
edited_nothing (Push x) h = let z : ⊥ = omega arith in elim z [ ]
edited_nothing Pop h = refl
edited_nothing (Replace x) h = refl
edited_nothing (Split under top) h = let z : ⊥ = omega arith in elim z [ ]
edited_nothing (Join x) h = refl

-- an edit of a shelf that misses a cell
pub missing_answered : {X : Type 0} (s : Shelves X) (j n : ℕ) (e : Edit X) (r : Result Unit Reason) → shelf_room (complete s) j ≡ 0 → n ≡ growth e → Asked 0 0 n r → ShelfAnswered (shelves s) (complete s) j e r (shelves s)
missing_answered s j n e (Ok _) z m a =
    let none = shelf_missing s j z in
    let g : growth e ≡ 0 = omega arith in
    let same : edited e (shelf j (shelves s)) ≡ shelf j (shelves s) = ap (edited e) none ∙ edited_nothing e g ∙ sym none in
    (omega (arith, ap length none), sym (ap (λ xs. with_shelf j xs (shelves s)) same ∙ with_shelf_same j (shelves s)))
missing_answered s j n e (Err r) z m a = (a.0, omega (arith, a.1), refl)

-- the shelf after the first k
module _ {X : Type 0} (s : Shelves X) (j k : ℕ) (p : ShelfPlace s j k) where
  next-shelf : (ls : List (List X)) → shelf j ls ≡ get_or ls k []
  next-shelf ls = let d : j ≡ suc k = omega (arith, p.next) in ap (λ n. shelf n ls) d

  next_with : (xs : List X) (ls : List (List X)) → with_shelf j xs ls ≡ set ls k xs
  next_with xs ls = let d : j ≡ suc k = omega (arith, p.next) in ap (λ n. with_shelf n xs ls) d

  pub place_height : get_or s.heights k 0 ≤ 64
  place_height = let f : get_or s.heights k 0 ≤ slot_room (length s.cells.now) k = s.fits k in omega (arith, room_in (length s.cells.now) k p.whole)

  pub place-length : length (shelf j (shelves s)) ≡ get_or s.heights k 0
  place-length = ap length (next-shelf (shelves s)) ∙ shelved-count s k p.one

  pub place_cells : stacked (get_or s.heights k 0) (between (64 * k) (64 * k + 64) s.cells.now) ≡ shelf j (shelves s)
  unfolding shelves
  place_cells =
      ap (stacked (get_or s.heights k 0)) (sym (slot_in k s.cells.now p.whole))
      ∙ sym (shelved_at s.heights s.cells.now k p.one)
      ∙ sym (next-shelf (shelves s))

  pub place-slice : shelf j (shelves s) ≡ reverse (between (64 * k) (64 * k + get_or s.heights k 0) s.cells.now)
  unfolding stacked
  place-slice =
      let h = get_or s.heights k 0 in
      let xs = drop (64 * k) s.cells.now in
      let e : h ≡ 64 * k + h - 64 * k = omega arith in
      sym place_cells
      ∙ ap reverse (take-take h (64 * k + 64 - 64 * k) xs (omega (arith, place_height)) ∙ ap (λ n. take n xs) e)

  -- an edit of the shelf, as one of a stack in its cells
  pub place-edited : (t : Shelves X) (a b : Stack X) (e : Edit X) (r : Result Unit Reason) (ys : List X) → length s.heights ≡ 64 → a.height ≡ get_or s.heights k 0 → a.cells.now ≡ between (64 * k) (64 * k + 64) s.cells.now → Answered (held a) (room a) e r (held b) → room b ≡ room a → ys ≡ b.cells.now → t.heights ≡ set s.heights k b.height → t.cells.now ≡ put_mid (64 * k) (64 * k + 64 - 64 * k) s.cells.now ys → ShelfAnswered (shelves s) (complete s) j e r (shelves t) × (complete t ≡ complete s)
  unfolding shelves complete held room
  place-edited t a b e r ys hl ah ac an same lent th tc =
      let xs = s.cells.now in
      let al : length a.cells.now ≡ 64 = ap length ac ∙ slot-length k xs p.whole in
      let yl : length ys ≡ 64 = ap length lent ∙ same ∙ al in
      let zl = same_len_mid (64 * k) (64 * k + 64 - 64 * k) xs ys (yl ∙ sym (slot-length k xs p.whole)) in
      let was : held a ≡ shelf j (shelves s) = ap (λ n. stacked n a.cells.now) ah ∙ ap (stacked (get_or s.heights k 0)) ac ∙ place_cells in
      let is : shelves t ≡ with_shelf j (held b) (shelves s) =
      ap (λ hs. shelved hs t.cells.now) th
      ∙ ap (shelved (set s.heights k b.height)) tc
      ∙ shelved-put s.heights xs ys k b.height p.one hl p.whole yl zl
      ∙ ap (λ zs. set (shelves s) k (stacked b.height zs)) lent
      ∙ sym (next_with (held b) (shelves s)) in
      (answered e r (held a) (held b) (room a) (complete s) (shelves s) (shelves t) j was (al ∙ sym p.room) is an, ap (λ n. min 64 (n / 64)) (ap length tc ∙ zl))

-- a pop is never refused
pub popped : {X : Type 0} (s : Shelves X) (j : ℕ) (r : Result Unit Reason) (ms : List (List X)) → ShelfAnswered (shelves s) (complete s) j Pop r ms → ms ≡ with_shelf j (rest_of (shelf j (shelves s))) (shelves s)
popped s j (Ok _) ms a = a.1
popped s j (Err r) ms a = let z : ⊥ = omega (arith, a.1, shelf-fits s j) in elim z [ ]

-- a shelf that is kept
pub kept_answered : {X : Type 0} (s : Shelves X) (j : ℕ) → ShelfAnswered (shelves s) (complete s) j Keep (Ok tt) (shelves s)
kept_answered s j = (omega (arith, shelf-fits s j), sym (with_shelf_same j (shelves s)))

pub ruleset shelving = (shelf_missing, missing_answered, popped, place-length, place_height)
