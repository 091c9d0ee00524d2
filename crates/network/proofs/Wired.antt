-- A part is wired when its construct and its own parts are.
use Rattle.std.proofs.Common.{◌≡◌, ℕ, suc, ◌+◌, ◌-◌, ◌*◌, ◌^◌, ◌<◌, ◌≤◌, min, List, [], ◌∷◌, ◌++◌, length, get_or, set, sym, refl, ap, ◌∙◌, subst, append_assoc, Some, Option, arith, length-set}
use mathlib.Core.Path.{fun_ext}
use Rattle.cells.specs.declared.kinds.Cell.{Cell}
use Rattle.cells.specs.declared.kinds.Port.{Port}
use Rattle.cells.specs.declared.kinds.Port.TheVariants.{First, Second, Third}
use Rattle.cells.specs.Ports.{port_at}
use Rattle.calculus.specs.Types.{Ty}
use Rattle.calculus.specs.Terms.{Term, var, num, succ, lam, app, pair, split, iter, free, without, subterms, nodes}
use Rattle.geometry.specs.Network.{l1, l2, l3, Env, put, Wire, EachVariable, crossings, entered, wires}
use Rattle.geometry.specs.Memory.{wired_cells}
use Rattle.geometry.specs.Derivations.{Distinct}
use Rattle.geometry.proofs.Memory.{wired_cells-append}
use Rattle.geometry.proofs.Local.{each_left, each_right, each_map, Same, same_bound, same-entered, same-crossings, local, Under, under_bound, under_entered}
use Rattle.syntax.specs.declared.program.Shape.{Shape}
use Rattle.syntax.specs.declared.program.Shape.TheVariants.{Variable, Number, Successor, Function, Application, Pair, Let, Iterator}
use Rattle.network.specs.declared.part.Part.{Part}
use Rattle.network.specs.Parts.{no_part, Linear, Holds}
use Rattle.network.specs.Wiring.{Table, start_of, starting, Below, own_wires, Started, Joinable, Crossed, Ready, Passable, Enclosed, Passed, Wirable, Wired}
use Rattle.network.proofs.Opened.{shaped}
use Rattle.network.proofs.Uses.{distinct, linear_succ, linear_lam, linear_app, linear_pair, linear_split, linear_iter}
use Rattle.network.proofs.Laid.{own_among}
use Rattle.network.proofs.Gathered.{below_long}
use Rattle.network.proofs.Crossed.{start_put}
use Rattle.network.proofs.Moved.{wired-moved, passed-moved, crossed_moved, moved-again, moved-both, rebound, unmoved, still_started}

-- wires written one list after another
then : (v w : List Wire) (a b c : List Cell) → b ≡ wired_cells v a → c ≡ wired_cells w b → c ≡ wired_cells (v ++ w) a
then v w a b c p q = q ∙ (ap (wired_cells w) p ∙ sym (wired_cells-append v w a))

-- the table after a write is the environment with one more start
starting-set : (s : Table) (x p : ℕ) → x < length s → starting (set s x (Some p)) ≡ put (starting s) x p
starting-set s x p l = fun_ext (start_put s x p l)

-- a part of a term that is ready
ready_part : {parts : List Part} {i size n : ℕ} {s : Table} {t : Term} → Ready parts i s size n t → (j size' : ℕ) (s' : Table) (u : Term) → size' ≡ size → Holds parts j u → Linear u → subterms u ≤ subterms t → length s' ≡ length s → Below (length s) u → EachVariable (Under n (starting s')) (free u) → Ready parts j s' size' n u
ready_part {s = s} r j size' s' u e h l z m b g =
    record {
      numbered = record { within = omega (arith, r.numbered.within, e); ports = r.numbered.ports };
      holds = h;
      linear = l;
      small = omega (arith, z, r.small);
      below = below_long u (length s) (length s') m b;
      started = g;
    }

-- a port's number, as the program computes it
abbrev pub At : Port → ℕ → ℕ → Type 0
At p k q = q ≡ min (port_at k p) (2 ^ 64 - 1)

module _ {parts : List Part} {i k r : ℕ} {s : Table} {size : ℕ} {t : Term} (w : Wirable parts i k r s size t) where
  at₁ : {q j : ℕ} → j ≤ k + nodes t → At First j q → q ≡ l1 j
  at₁ l e = omega (arith, l, e, w.room, w.ready.numbered.ports)

  at₂ : {q j : ℕ} → j ≤ k + nodes t → At Second j q → q ≡ l2 j
  at₂ l e = omega (arith, l, e, w.room, w.ready.numbered.ports)

  at₃ : {q j : ℕ} → j ≤ k + nodes t → At Third j q → q ≡ l3 j
  at₃ l e = omega (arith, l, e, w.room, w.ready.numbered.ports)

module _ {parts : List Part} {i k r : ℕ} {s : Table} {size : ℕ} where
  -- the parts of each construct, in the order in which they are wired
  pub in_succ : {a : Term} (w : Wirable parts i k r s size (succ a)) {j p size' : ℕ} → Holds parts j a → At First k p → size' ≡ size → Wirable parts j (k + 1) p s size' a
  in_succ {a} w {j} {p} {size'} h f g =
      record {
        n = w.n;
        ready = ready_part w.ready j size' s a g h (linear_succ w.ready.linear) (omega arith) refl w.ready.below w.ready.started;
        room = omega (arith, w.room);
        rooted = omega (arith, w.room, f);
      }

  pub in_lam : {x : ℕ} {T : Ty} {a : Term} (w : Wirable parts i k r s size (lam x T a)) {j p q size' : ℕ} {s' : Table} → Holds parts j a → At Third k q → s' ≡ set s x (Some q) → At Second k p → size' ≡ size → Wirable parts j (k + 1) p s' size' a
  in_lam {x} {T} {a} w {j} {p} {q} {size'} {s'} h o z f g =
      let b = w.ready.below in
      let l : q < 3 * w.n = omega (arith, w.room, o) in
      let u = under_bound w.n (starting s) x q l (free a) w.ready.started in
      let v : EachVariable (Under w.n (starting s')) (free a) = rw (z, starting-set s x q b.0) u in
      record {
        n = w.n;
        ready = ready_part w.ready j size' s' a g h (linear_lam w.ready.linear).0 (omega arith) (ap length z ∙ length-set s x (Some q)) b.1 v;
        room = omega (arith, w.room);
        rooted = omega (arith, w.room, f);
      }

  -- the left of two parts
  in_left : {t a : Term} (w : Wirable parts i k r s size t) {j p size' : ℕ} → Holds parts j a → p < 3 * w.n → size' ≡ size → Linear a → subterms a ≤ subterms t → suc (nodes a) ≤ nodes t → Below (length s) a → EachVariable (Under w.n (starting s)) (free a) → Wirable parts j (k + 1) p s size' a
  in_left {t} {a} w {j} {p} {size'} h f g l z y b u =
      record { n = w.n; ready = ready_part w.ready j size' s a g h l z refl b u; room = omega (arith, w.room, y); rooted = f }

  -- the right of two parts, after the left was wired
  in_right : {t a b : Term} (w : Wirable parts i k r s size t) {j p q k' size' : ℕ} {s' : Table} {cs cs' : List Cell} → Holds parts j b → Wired a (k + 1) q k' s s' cs cs' → p < 3 * w.n → size' ≡ size → Linear b → subterms b ≤ subterms t → suc (nodes a + nodes b) ≤ nodes t → Below (length s) b → EachVariable (Under w.n (starting s)) (free b) → Distinct (free a ++ free b) → Wirable parts j k' p s' size' b
  in_right {t} {a} {b} w {j} {p} {q} {k'} {size'} {s'} h x f g l z y o u d =
      let m = wired-moved x in
      record { n = w.n; ready = ready_part w.ready j size' s' b g h l z m.long o (still_started w.n (free a) (free b) s s' m d u); room = omega (arith, w.room, x.next, y); rooted = f }

  pub in_app₁ : {a b : Term} (w : Wirable parts i k r s size (app a b)) {j p size' : ℕ} → Holds parts j a → At First k p → size' ≡ size → Wirable parts j (k + 1) p s size' a
  in_app₁ {a} {b} w h f g =
      in_left w h (omega (arith, w.room, f)) g (linear_app w.ready.linear).0 (omega arith) (omega arith) w.ready.below.0 (each_left (Under w.n (starting s)) (free a) (free b) w.ready.started)

  pub in_app₂ : {a b : Term} (w : Wirable parts i k r s size (app a b)) {j p q k' size' : ℕ} {s' : Table} {cs cs' : List Cell} → Holds parts j b → Wired a (k + 1) q k' s s' cs cs' → At Third k p → size' ≡ size → Wirable parts j k' p s' size' b
  in_app₂ {a} {b} w h x f g =
      in_right w h x (omega (arith, w.room, f)) g (linear_app w.ready.linear).1 (omega arith) (omega arith) w.ready.below.1 (each_right (Under w.n (starting s)) (free a) (free b) w.ready.started) (distinct w.ready.linear)

  pub in_pair₁ : {a b : Term} (w : Wirable parts i k r s size (pair a b)) {j p size' : ℕ} → Holds parts j a → At Second k p → size' ≡ size → Wirable parts j (k + 1) p s size' a
  in_pair₁ {a} {b} w h f g =
      in_left w h (omega (arith, w.room, f)) g (linear_pair w.ready.linear).0 (omega arith) (omega arith) w.ready.below.0 (each_left (Under w.n (starting s)) (free a) (free b) w.ready.started)

  pub in_pair₂ : {a b : Term} (w : Wirable parts i k r s size (pair a b)) {j p q k' size' : ℕ} {s' : Table} {cs cs' : List Cell} → Holds parts j b → Wired a (k + 1) q k' s s' cs cs' → At Third k p → size' ≡ size → Wirable parts j k' p s' size' b
  in_pair₂ {a} {b} w h x f g =
      in_right w h x (omega (arith, w.room, f)) g (linear_pair w.ready.linear).1 (omega arith) (omega arith) w.ready.below.1 (each_right (Under w.n (starting s)) (free a) (free b) w.ready.started) (distinct w.ready.linear)

  pub in_split₁ : {x y : ℕ} {a b : Term} (w : Wirable parts i k r s size (split x y a b)) {j p size' : ℕ} → Holds parts j a → At First k p → size' ≡ size → Wirable parts j (k + 1) p s size' a
  in_split₁ {x} {y} {a} {b} w h f g =
      in_left w h (omega (arith, w.room, f)) g (linear_split w.ready.linear).0 (omega arith) (omega arith) w.ready.below.2 (each_left (Under w.n (starting s)) (free a) (without x (without y (free b))) w.ready.started)

  pub in_split₂ : {x y : ℕ} {a b : Term} (w : Wirable parts i k r s size (split x y a b)) {j q k' p p' size' : ℕ} {s₁ s₂ s₃ : Table} {cs cs' : List Cell} → Holds parts j b → Wired a (k + 1) q k' s s₁ cs cs' → At Second k p → s₂ ≡ set s₁ x (Some p) → At Third k p' → s₃ ≡ set s₂ y (Some p') → size' ≡ size → Wirable parts j k' r s₃ size' b
  in_split₂ {x} {y} {a} {b} w {j} {q} {k'} {p} {p'} {size'} {s₁} {s₂} {s₃} h v f e f' e' g =
      let o = w.ready.below in
      let m = wired-moved v in
      let rest = without x (without y (free b)) in
      let u₁ = still_started w.n (free a) rest s s₁ m (distinct w.ready.linear) (each_right (Under w.n (starting s)) (free a) rest w.ready.started) in
      let u₂ = under_bound w.n (starting s₁) x p (omega (arith, w.room, f)) (without y (free b)) u₁ in
      let u₃ = under_bound w.n (put (starting s₁) x p) y p' (omega (arith, w.room, f')) (free b) u₂ in
      let l : length s₂ ≡ length s = ap length e ∙ (length-set s₁ x (Some p) ∙ m.long) in
      let lx : x < length s₁ = omega (arith, o.0, m.long) in
      let ly : y < length s₂ = omega (arith, o.1, l) in
      let z : starting s₃ ≡ put (put (starting s₁) x p) y p' = ap starting e' ∙ (starting-set s₂ y p' ly ∙ ap (λ q. put q y p') (ap starting e ∙ starting-set s₁ x p lx)) in
      let u : EachVariable (Under w.n (starting s₃)) (free b) = rw z u₃ in
      record {
        n = w.n;
        ready = ready_part w.ready j size' s₃ b g h (linear_split w.ready.linear).1 (omega arith) (ap length e' ∙ (length-set s₂ y (Some p') ∙ l)) o.3 u;
        room = omega (arith, w.room, v.next);
        rooted = w.rooted;
      }

  -- the parts of an iterator: its count, and its step and its base before and behind their Transfer nodes
  pub in_iter₁ : {a b c : Term} (w : Wirable parts i k r s size (iter a b c)) {j p size' : ℕ} → Holds parts j a → At First k p → size' ≡ size → Wirable parts j (k + 4) p s size' a
  in_iter₁ {a} {b} {c} w {j} {p} {size'} h f g =
      record {
        n = w.n;
        ready = ready_part w.ready j size' s a g h (linear_iter w.ready.linear).0 (omega arith) refl w.ready.below.0 (each_left (Under w.n (starting s)) (free a) (free b ++ free c) w.ready.started);
        room = omega (arith, w.room);
        rooted = omega (arith, w.room, f);
      }

  pub in_step : {a b c : Term} (w : Wirable parts i k r s size (iter a b c)) {j p q k' size' : ℕ} {s₁ : Table} {cs cs' : List Cell} → Holds parts j b → Wired a (k + 4) q k' s s₁ cs cs' → At First (k + 3) p → size' ≡ size → Enclosed parts j k' p s₁ size' b
  in_step {a} {b} {c} w {j} {p} {q} {k'} {size'} {s₁} h v f g =
      let m = wired-moved v in
      let u = still_started w.n (free a) (free b ++ free c) s s₁ m (distinct w.ready.linear) (each_right (Under w.n (starting s)) (free a) (free b ++ free c) w.ready.started) in
      record {
        passable = record {
          n = w.n;
          ready = ready_part w.ready j size' s₁ b g h (linear_iter w.ready.linear).1 (omega arith) m.long w.ready.below.1 (each_left (Under w.n (starting s₁)) (free b) (free c) u);
          room = omega (arith, w.room, v.next);
        };
        rooted = omega (arith, w.room, f);
      }

  pub in_base : {a b c : Term} (w : Wirable parts i k r s size (iter a b c)) {j p q q' k₁ k₂ size' : ℕ} {s₁ s₂ : Table} {c₁ c₂ c₃ c₄ : List Cell} → Holds parts j c → Wired a (k + 4) q k₁ s s₁ c₁ c₂ → Passed b k₁ q' k₂ s₁ s₂ c₃ c₄ → At Second (k + 2) p → size' ≡ size → Enclosed parts j k₂ p s₂ size' c
  in_base {a} {b} {c} w {j} {p} {q} {q'} {k₁} {k₂} {size'} {s₁} {s₂} h v x f g =
      let m = moved-both (free a) (free b) s s₁ s₂ (wired-moved v) (passed-moved x) in
      let d : Distinct ((free a ++ free b) ++ free c) = rw (append_assoc (free a) (free b) (free c)) (distinct w.ready.linear) in
      let u = each_right (Under w.n (starting s)) (free b) (free c) (each_right (Under w.n (starting s)) (free a) (free b ++ free c) w.ready.started) in
      record {
        passable = record {
          n = w.n;
          ready = ready_part w.ready j size' s₂ c g h (linear_iter w.ready.linear).2 (omega arith) m.long w.ready.below.2 (still_started w.n (free a ++ free b) (free c) s s₂ m d u);
          room = omega (arith, w.room, v.next, x.next);
        };
        rooted = omega (arith, w.room, f);
      }

-- inside its Transfer nodes a part is ready as well
pub inside : {parts : List Part} {i k size : ℕ} {s : Table} {t : Term} (h : Passable parts i k s size t) {p size' : ℕ} {s' : Table} {cs cs' : List Cell} → Crossed (free t) (k + nodes t) s s' cs cs' → size' ≡ size → p < 3 * h.n → Wirable parts i k p s' size' t
inside {i = i} {k = k} {s = s} {t = t} h {size' = size'} {s' = s'} x e f =
    let j = k + nodes t in
    let u = under_entered h.n (free t) j (starting s) (free t) h.room h.ready.started in
    let v = each_map (Under h.n (entered (free t) j (starting s))) (Under h.n (starting s')) (λ y l. rw (x.inside y) l) (free t) u in
    record {
      n = h.n;
      ready = ready_part h.ready i size' s' t e h.ready.holds h.ready.linear (omega arith) x.long h.ready.below v;
      room = omega (arith, h.room);
      rooted = f;
    }

-- a part's wires, with its place, its root's port and its environment known by other names
wires_at : (t : Term) (k k' p p' : ℕ) (e f : Env) → k ≡ k' → p ≡ p' → EachVariable (Same e f) (free t) → wires t k p e ≡ wires t k' p' f
wires_at t k k' p p' e f g h m = ap (λ q. wires t q p e) g ∙ (ap (λ q. wires t k' q e) h ∙ local t k' p' e f m)

same_all : (e : Env) (xs : List ℕ) → EachVariable (Same e e) xs
same_all e [] = tt
same_all e (x ∷ xs) = (refl, same_all e xs)

-- a wired part, so known
written_at : {t : Term} {k k' p p' e : ℕ} {s s' : Table} {cs cs' : List Cell} (f : Env) → Wired t k p e s s' cs cs' → k ≡ k' → p ≡ p' → EachVariable (Same (starting s) f) (free t) → cs' ≡ wired_cells (wires t k' p' f) cs
written_at {t} {k} {k'} {p} {p'} {e} {s} {s'} {cs} {cs'} f w g h m = w.written ∙ ap (λ ws. wired_cells ws cs) (wires_at t k k' p p' (starting s) f g h m)

pub wired_variable : {x k r : ℕ} {s : Table} {cs cs' : List Cell} → cs' ≡ wired_cells ((starting s x, r) ∷ []) cs → Wired (var x) k r k s s cs cs'
wired_variable w = record { next = omega arith; written = w; long = refl; same = λ y a. refl }

pub wired-number : {v k r : ℕ} {s : Table} {cs cs' : List Cell} → cs' ≡ wired_cells ((r, l1 k) ∷ []) cs → Wired (num v) k r (k + 1) s s cs cs'
wired-number w = record { next = refl; written = w; long = refl; same = λ y a. refl }

-- two parts, one after the other
two : (own : List Wire) {a b : Term} (k : ℕ) {k₂ p p' q q' e : ℕ} {s s₁ s₂ : Table} (cs : List Cell) {c₁ c₂ c₃ : List Cell} → c₁ ≡ wired_cells own cs → p ≡ p' → Wired a (k + 1) p k₂ s s₁ c₁ c₂ → q ≡ q' → Wired b k₂ q e s₁ s₂ c₂ c₃ → Distinct (free a ++ free b) → c₃ ≡ wired_cells (own ++ (wires a (suc k) p' (starting s) ++ wires b (suc k + nodes a) q' (starting s))) cs
two own {a} {b} k {p' = p'} {q' = q'} {s = s} {s₁ = s₁} cs {c₁} {c₂} {c₃} o g v h w d =
    let x = written_at (starting s) v (omega arith) g (same_all (starting s) (free a)) in
    let y = written_at (starting s) w (omega (arith, v.next)) h (unmoved (free a) (free b) s s₁ (wired-moved v) d) in
    let u = wires a (suc k) p' (starting s) in
    let t = wires b (suc k + nodes a) q' (starting s) in
    then own (u ++ t) cs c₁ c₃ o (then u t c₁ c₂ c₃ x y)

module _ {parts : List Part} {i k r : ℕ} {s : Table} {size : ℕ} where
  pub wired_succ : {a : Term} {p e : ℕ} {s₁ : Table} {cs c₁ c₂ : List Cell} (w : Wirable parts i k r s size (succ a)) → c₁ ≡ wired_cells ((r, l2 k) ∷ []) cs → At First k p → Wired a (k + 1) p e s s₁ c₁ c₂ → Wired (succ a) k r e s s₁ cs c₂
  wired_succ {a} {p} {e} {s₁} {cs} {c₁} {c₂} w o f v =
      record {
        next = omega (arith, v.next);
        written = then ((r, l2 k) ∷ []) (wires a (suc k) (l1 k) (starting s)) cs c₁ c₂ o (written_at (starting s) v (omega arith) (at₁ w (omega arith) f) (same_all (starting s) (free a)));
        long = v.long;
        same = v.same;
      }

  pub wired_lam : {x : ℕ} {T : Ty} {a : Term} {p q e : ℕ} {o : Option ℕ} {s₁ s₂ s₃ : Table} {cs c₁ c₂ : List Cell} (w : Wirable parts i k r s size (lam x T a)) → c₁ ≡ wired_cells ((r, l1 k) ∷ []) cs → At Third k q → o ≡ start_of s x → s₁ ≡ set s x (Some q) → At Second k p → Wired a (k + 1) p e s₁ s₂ c₁ c₂ → s₃ ≡ set s₂ x o → Wired (lam x T a) k r e s s₃ cs c₂
  wired_lam {x} {T} {a} {p} {q} {e} {o} {s₁} {s₂} {s₃} {cs} {c₁} {c₂} w z h b y f v g =
      let l = w.ready.below.0 in
      let m = rebound (free a) s s₁ s₂ s₃ x (Some q) o l y (wired-moved v) b g in
      let n : starting s₁ ≡ put (starting s) x (l3 k) = ap starting y ∙ (starting-set s x q l ∙ ap (put (starting s) x) (at₃ w (omega arith) h)) in
      let u : EachVariable (Same (starting s₁) (put (starting s) x (l3 k))) (free a) = rw n (same_all (put (starting s) x (l3 k)) (free a)) in
      record {
        next = omega (arith, v.next);
        written = then ((r, l1 k) ∷ []) (wires a (suc k) (l2 k) (put (starting s) x (l3 k))) cs c₁ c₂ z (written_at (put (starting s) x (l3 k)) v (omega arith) (at₂ w (omega arith) f) u);
        long = m.long;
        same = m.same;
      }

  pub wired_app : {a b : Term} {p q k₂ e : ℕ} {s₁ s₂ : Table} {cs c₁ c₂ c₃ : List Cell} (w : Wirable parts i k r s size (app a b)) → c₁ ≡ wired_cells ((r, l2 k) ∷ []) cs → At First k p → Wired a (k + 1) p k₂ s s₁ c₁ c₂ → At Third k q → Wired b k₂ q e s₁ s₂ c₂ c₃ → Wired (app a b) k r e s s₂ cs c₃
  wired_app {a} {b} {s₁ = s₁} {s₂ = s₂} {cs = cs} w o f v g y =
      let m = moved-both (free a) (free b) s s₁ s₂ (wired-moved v) (wired-moved y) in
      record { next = omega (arith, v.next, y.next); written = two ((r, l2 k) ∷ []) k cs o (at₁ w (omega arith) f) v (at₃ w (omega arith) g) y (distinct w.ready.linear); long = m.long; same = m.same }

  pub wired_pair : {a b : Term} {p q k₂ e : ℕ} {s₁ s₂ : Table} {cs c₁ c₂ c₃ : List Cell} (w : Wirable parts i k r s size (pair a b)) → c₁ ≡ wired_cells ((r, l1 k) ∷ []) cs → At Second k p → Wired a (k + 1) p k₂ s s₁ c₁ c₂ → At Third k q → Wired b k₂ q e s₁ s₂ c₂ c₃ → Wired (pair a b) k r e s s₂ cs c₃
  wired_pair {a} {b} {s₁ = s₁} {s₂ = s₂} {cs = cs} w o f v g y =
      let m = moved-both (free a) (free b) s s₁ s₂ (wired-moved v) (wired-moved y) in
      record { next = omega (arith, v.next, y.next); written = two ((r, l1 k) ∷ []) k cs o (at₂ w (omega arith) f) v (at₃ w (omega arith) g) y (distinct w.ready.linear); long = m.long; same = m.same }

  pub wired_split : {x y : ℕ} {a b : Term} {p q q' k₂ e : ℕ} {o o' : Option ℕ} {s₁ s₂ s₃ s₄ s₅ s₆ : Table} {cs c₁ c₂ c₃ : List Cell} (w : Wirable parts i k r s size (split x y a b)) → c₁ ≡ cs → At First k p → Wired a (k + 1) p k₂ s s₁ c₁ c₂ →
      At Second k q → o ≡ start_of s₁ x → s₂ ≡ set s₁ x (Some q) → At Third k q' → o' ≡ start_of s₂ y → s₃ ≡ set s₂ y (Some q') → Wired b k₂ r e s₃ s₄ c₂ c₃ → s₅ ≡ set s₄ y o' → s₆ ≡ set s₅ x o → Wired (split x y a b) k r e s s₆ cs c₃
  wired_split {x} {y} {a} {b} {p} {q} {q'} {k₂} {e} {o} {o'} {s₁} {s₂} {s₃} {s₄} {s₅} {s₆} {cs} {c₁} {c₂} {c₃} w z f v g ox sx g' oy sy u by bx =
      let m = wired-moved v in
      let d = distinct w.ready.linear in
      let rest = without x (without y (free b)) in
      let lx : x < length s₁ = omega (arith, w.ready.below.0, m.long) in
      let ly : y < length s₂ = omega (arith, w.ready.below.1, m.long, ap length sx, length-set s₁ x (Some q)) in
      let inner = rebound (free b) s₂ s₃ s₄ s₅ y (Some q') o' ly sy (wired-moved u) oy by in
      let outer = rebound (without y (free b)) s₁ s₂ s₅ s₆ x (Some q) o lx sx inner ox bx in
      let all = moved-both (free a) rest s s₁ s₆ m outer in
      let ex : starting s₂ ≡ put (starting s₁) x (l2 k) = ap starting sx ∙ (starting-set s₁ x q lx ∙ ap (put (starting s₁) x) (at₂ w (omega arith) g)) in
      let ey : starting s₃ ≡ put (put (starting s₁) x (l2 k)) y (l3 k) = ap starting sy ∙ (starting-set s₂ y q' ly ∙ (ap (put (starting s₂) y) (at₃ w (omega arith) g') ∙ ap (λ r. put r y (l3 k)) ex)) in
      let inside = put (put (starting s) x (l2 k)) y (l3 k) in
      let n = same_bound (put (starting s₁) x (l2 k)) (put (starting s) x (l2 k)) y (l3 k) (free b) (same_bound (starting s₁) (starting s) x (l2 k) (without y (free b)) (unmoved (free a) rest s s₁ m d)) in
      let n' : EachVariable (Same (starting s₃) inside) (free b) = rw ey n in
      let next : e ≡ k + nodes (split x y a b) = omega (arith, v.next, u.next) in
      let first = written_at (starting s) v (omega arith) (at₁ w (omega arith) f) (same_all (starting s) (free a)) in
      let second = written_at inside u (omega (arith, v.next)) refl n' in
      record {
        next = next;
        written = then (wires a (suc k) (l1 k) (starting s)) (wires b (suc k + nodes a) r inside) cs c₂ c₃ (first ∙ ap (wired_cells (wires a (suc k) (l1 k) (starting s))) z) second;
        long = all.long;
        same = all.same;
      }

-- a step or a base that passed its Transfer nodes
pub passed_by : {t : Term} {k p r e : ℕ} {s s₁ s₂ : Table} {c c₁ c₂ : List Cell} → r ≡ k + nodes t + length (free t) → Crossed (free t) (k + nodes t) s s₁ c c₁ → Wired t k p e s₁ s₂ c₁ c₂ → Passed t k p r s s₂ c c₂
passed_by {t} {k} {p} {r} {e} {s} {s₁} {s₂} {c} {c₁} {c₂} f x w =
    let j = k + nodes t in
    let env = entered (free t) j (starting s) in
    let m = moved-again (free t) s s₁ s₂ (crossed_moved (free t) j s s₁ c c₁ x) (wired-moved w) in
    let v = each_map (λ y. Unit {0}) (Same (starting s₁) env) (λ y q. x.inside y) (free t) (any_of (free t)) in
    record { next = f; written = then (crossings (free t) j (starting s)) (wires t k p env) c c₁ c₂ x.written (written_at env w refl refl v); long = m.long; same = m.same }
  where
    any_of : (ys : List ℕ) → EachVariable (λ y. Unit {0}) ys
    any_of [] = tt
    any_of (y ∷ ys) = (tt, any_of ys)

passed_at : {t : Term} {k k' p p' r : ℕ} {s s₁ : Table} {c c₁ : List Cell} (f : Env) → Passed t k p r s s₁ c c₁ → k ≡ k' → p ≡ p' → EachVariable (Same (starting s) f) (free t) → c₁ ≡ wired_cells (crossings (free t) (k' + nodes t) f ++ wires t k' p' (entered (free t) (k' + nodes t) f)) c
passed_at {t} {k} {k'} {p} {p'} {r} {s} {s₁} {c} {c₁} f x g h m =
    let j = k' + nodes t in
    let e = starting s in
    let wires_of : ℕ → ℕ → List Wire = λ a b. crossings (free t) (a + nodes t) e ++ wires t a b (entered (free t) (a + nodes t) e) in
    let z : crossings (free t) j e ≡ crossings (free t) j f = same-crossings (free t) j e f m in
    let y : wires t k' p' (entered (free t) j e) ≡ wires t k' p' (entered (free t) j f) = local t k' p' (entered (free t) j e) (entered (free t) j f) (same-entered (free t) j e f (free t) m) in
    x.written ∙ ap (λ ws. wired_cells ws c) (ap (λ a. wires_of a p) g ∙ (ap (λ b. wires_of k' b) h ∙ (ap (λ l. l ++ wires t k' p' (entered (free t) j e)) z ∙ ap (λ l. crossings (free t) j f ++ l) y)))

pub wired_iter : {parts : List Part} {i k r size : ℕ} {s : Table} {a b c : Term} {k₂ k₃ p q q' e : ℕ} {s₁ s₂ s₃ : Table} {cs c₁ c₂ c₃ c₄ : List Cell} (w : Wirable parts i k r s size (iter a b c)) → c₁ ≡ wired_cells (own_wires (Iterator 0 0 0) k r (starting s)) cs →
    At First k p → Wired a (k + 4) p k₂ s s₁ c₁ c₂ → At First (k + 3) q → Passed b k₂ q k₃ s₁ s₂ c₂ c₃ → At Second (k + 2) q' → Passed c k₃ q' e s₂ s₃ c₃ c₄ → Wired (iter a b c) k r e s s₃ cs c₄
wired_iter {k = k} {r = r} {s = s} {a = a} {b = b} {c = c} {k₂ = k₂} {k₃ = k₃} {q = q} {q' = q'} {e = e} {s₁ = s₁} {s₂ = s₂} {s₃ = s₃} {cs = cs} {c₁ = c₁} {c₂ = c₂} {c₃ = c₃} {c₄ = c₄} w z g v h x h' y =
    let d = distinct w.ready.linear in
    let m = suc (suc (suc k)) in
    let st = suc m + nodes a in
    let ba = st + nodes b + length (free b) in
    let env = starting s in
    let ma = wired-moved v in
    let mb = passed-moved x in
    let mab = moved-both (free a) (free b) s s₁ s₂ ma mb in
    let all = moved-both (free a) (free b ++ free c) s s₁ s₃ ma (moved-both (free b) (free c) s₁ s₂ s₃ mb (passed-moved y)) in
    let d' : Distinct ((free a ++ free b) ++ free c) = rw (append_assoc (free a) (free b) (free c)) d in
    let ub = each_left (Same (starting s₁) env) (free b) (free c) (unmoved (free a) (free b ++ free c) s s₁ ma d) in
    let uc = unmoved (free a ++ free b) (free c) s s₂ mab d' in
    let counts = wires a (suc m) (l1 k) env in
    let steps = crossings (free b) (st + nodes b) env ++ wires b st (l1 m) (entered (free b) (st + nodes b) env) in
    let bases = crossings (free c) (ba + nodes c) env ++ wires c ba (l2 (suc (suc k))) (entered (free c) (ba + nodes c) env) in
    let next : e ≡ k + nodes (iter a b c) = omega (arith, v.next, x.next, y.next) in
    let to_step : q ≡ l1 m = at₁ w (omega arith) h ∙ omega arith in
    let to_base : q' ≡ l2 (suc (suc k)) = at₂ w (omega arith) h' ∙ omega arith in
    let from_step : k₂ ≡ st = omega (arith, v.next) in
    let from_base : k₃ ≡ ba = omega (arith, x.next, v.next) in
    let count = written_at env v (omega arith) (at₁ w (omega arith) g) (same_all env (free a)) in
    let step = passed_at env x from_step to_step ub in
    let base = passed_at env y from_base to_base uc in
    record {
      next = next;
      written = then (own_wires (Iterator 0 0 0) k r env) (counts ++ (steps ++ bases)) cs c₁ c₄ z (then counts (steps ++ bases) c₁ c₂ c₄ count (then steps bases c₂ c₃ c₄ step base));
      long = all.long;
      same = all.same;
    }

-- the wires of a construct itself go between ports of the network
pub joinable : (parts : List Part) (i : ℕ) {k r : ℕ} {s : Table} {size : ℕ} (t : Term) (p : Part) → get_or parts i no_part ≡ p → Wirable parts i k r s size t → Joinable p.shape k r s size
joinable parts i {k} {r} {s} {size} t p e w =
    record {
      n = w.n;
      numbered = w.ready.numbered;
      rooted = w.rooted;
      room = omega (arith, w.room, own_among parts i t p e w.ready.holds);
      started = begun t p e w.ready.holds w.ready.below w.ready.started;
    }
  where
    begun : (t : Term) (p : Part) → get_or parts i no_part ≡ p → Holds parts i t → Below (length s) t → EachVariable (Under w.n (starting s)) (free t) → Started w.n s p.shape
    begun (var x) p e h b u = subst (λ (q : Part). Started w.n s q.shape) (sym h.is ∙ e) (b, u.0)
    begun (num v) p e h b u = subst (λ (q : Part). Started w.n s q.shape) (sym h.is ∙ e) tt
    begun (succ a) p e (j, h, l, d) b u = subst (λ (q : Part). Started w.n s q.shape) (sym h.is ∙ e) tt
    begun (lam x T a) p e (m, j, h, l, d) b u = subst (λ (q : Part). Started w.n s q.shape) (sym h.is ∙ e) tt
    begun (app a c) p e (j, m, h, l, o, d, f) b u = subst (λ (q : Part). Started w.n s q.shape) (sym h.is ∙ e) tt
    begun (pair a c) p e (j, m, h, l, o, d, f) b u = subst (λ (q : Part). Started w.n s q.shape) (sym h.is ∙ e) tt
    begun (split x y a c) p e (j, m, h, l, o, d, f) b u = subst (λ (q : Part). Started w.n s q.shape) (sym h.is ∙ e) tt
    begun (iter a c v) p e (j, m, z, h, l, o, y, d, f, g) b u = subst (λ (q : Part). Started w.n s q.shape) (sym h.is ∙ e) tt

-- a part of this shape that can be wired: the terms of its parts, and itself as their construct
abbrev pub WirableAs : List Part → ℕ → ℕ → ℕ → Table → ℕ → Shape → Term → Type 0
WirableAs parts i k r s size (Variable x) t = t ≡ var x
WirableAs parts i k r s size (Number n) t = t ≡ num n
WirableAs parts i k r s size (Successor j) t = (a : Term) × (t ≡ succ a) × (j < i) × Holds parts j a × Wirable parts i k r s size (succ a)
WirableAs parts i k r s size (Function x n j) t = (T : Ty) × (a : Term) × (t ≡ lam x T a) × (j < i) × Holds parts j a × Wirable parts i k r s size (lam x T a)
WirableAs parts i k r s size (Application j l) t = (a : Term) × (b : Term) × (t ≡ app a b) × (j < i) × (l < i) × Holds parts j a × Holds parts l b × Wirable parts i k r s size (app a b)
WirableAs parts i k r s size (Pair j l) t = (a : Term) × (b : Term) × (t ≡ pair a b) × (j < i) × (l < i) × Holds parts j a × Holds parts l b × Wirable parts i k r s size (pair a b)
WirableAs parts i k r s size (Let x y j l) t = (a : Term) × (b : Term) × (t ≡ split x y a b) × (j < i) × (l < i) × Holds parts j a × Holds parts l b × Wirable parts i k r s size (split x y a b)
WirableAs parts i k r s size (Iterator j l m) t = (a : Term) × (b : Term) × (c : Term) × (t ≡ iter a b c) × (j < i) × (l < i) × (m < i) × Holds parts j a × Holds parts l b × Holds parts m c × Wirable parts i k r s size (iter a b c)

module _ {parts : List Part} {i k r : ℕ} {s : Table} {size : ℕ} {t : Term} {p : Part} (e : get_or parts i no_part ≡ p) (w : Wirable parts i k r s size t) where
  known_as : (u : Term) → t ≡ u → Wirable parts i k r s size u
  known_as u f = subst (Wirable parts i k r s size) f w

  pub wirable_as : (h : Shape) → p.shape ≡ h → WirableAs parts i k r s size h t
  wirable_as (Variable x) f = shaped parts i t p _ e f w.ready.holds
  wirable_as (Number n) f = shaped parts i t p _ e f w.ready.holds
  wirable_as (Successor j) f = let (a, q, l, d) = shaped parts i t p (Successor j) e f w.ready.holds in (a, q, l, d, known_as _ q)
  wirable_as (Function x n j) f = let (T, a, q, l, d) = shaped parts i t p (Function x n j) e f w.ready.holds in (T, a, q, l, d, known_as _ q)
  wirable_as (Application j m) f = let (a, b, q, l, o, d, g) = shaped parts i t p (Application j m) e f w.ready.holds in (a, b, q, l, o, d, g, known_as _ q)
  wirable_as (Pair j m) f = let (a, b, q, l, o, d, g) = shaped parts i t p (Pair j m) e f w.ready.holds in (a, b, q, l, o, d, g, known_as _ q)
  wirable_as (Let x y j m) f = let (a, b, q, l, o, d, g) = shaped parts i t p (Let x y j m) e f w.ready.holds in (a, b, q, l, o, d, g, known_as _ q)
  wirable_as (Iterator j m n) f = let (a, b, c, q, l, o, z, d, g, h) = shaped parts i t p (Iterator j m n) e f w.ready.holds in (a, b, c, q, l, o, z, d, g, h, known_as _ q)

-- the wires of a construct itself, its shape known by another name
pub own_as : (k r : ℕ) (s : Table) (cs : List Cell) {cs' : List Cell} {g h : Shape} → g ≡ h → cs' ≡ wired_cells (own_wires g k r (starting s)) cs → cs' ≡ wired_cells (own_wires h k r (starting s)) cs
own_as k r s cs e o = o ∙ ap (λ q. wired_cells (own_wires q k r (starting s)) cs) e

pub wired_as : {t u : Term} {k r e : ℕ} {s s' : Table} {cs cs' : List Cell} → t ≡ u → Wired u k r e s s' cs cs' → Wired t k r e s s' cs cs'
wired_as {k = k} {r = r} {e = e} {s = s} {s' = s'} {cs = cs} {cs' = cs'} f w = subst (λ q. Wired q k r e s s' cs cs') (sym f) w
