-- What an accepted text says of its program: its variables have places in the text, and it has few sub-terms and small numbers.
use Rattle.std.proofs.Common.{◌≡◌, ℕ, suc, ◌+◌, ◌-◌, ◌<◌, ◌≤◌, Bool, true, false, cond, List, [], ◌∷◌, ◌++◌, length, refl, ap, subst, arith}
use Rattle.std.specs.Str.{bytes_eq}
use Rattle.calculus.specs.Types.{Ty, N, ◌⇒◌, ◌⊗◌}
use Rattle.calculus.specs.Terms.{subterms}
use Rattle.geometry.specs.Derivations.{NumbersWithin}
use Rattle.syntax.specs.declared.program.Subterm.{Subterm}
use Rattle.syntax.specs.declared.program.TypeCell.{TypeCell}
use Rattle.syntax.specs.Trees.{Name, Binder, Tree, occ, num, succ, lam, app, pair, split, iter, erase}
use Rattle.syntax.specs.Signs.{Sign, word, digits, mark, Placed, blank, letter, digit, begins, with_letter, with_digit, with_byte, lex, signs_of}
use Rattle.syntax.specs.Grammar.{Next, At, StandsType, Stands, Spells, size, largest}
use Rattle.syntax.specs.Names.{binder_of, resolve}
use Rattle.syntax.specs.Answer.{Spans}
use Rattle.network.specs.Wiring.{Below}

-- the signs have places below the end
abbrev Inside : ℕ → List Placed → Type 0
Inside end [] = Unit {0}
Inside end ((p, x) ∷ s) = (p < end) × Inside end s

letter-inside : (end p b : ℕ) (j : Bool) (s : List Placed) → p < end → Inside end s → Inside end (with_letter p b j s)
letter-inside end p b j [] l h = (l, tt)
letter-inside end p b true ((q, word w) ∷ s) l h = (l, h.1)
letter-inside end p b false ((q, word w) ∷ s) l h = (l, h)
letter-inside end p b j ((q, digits w) ∷ s) l h = (l, h)
letter-inside end p b j ((q, mark c) ∷ s) l h = (l, h)

digit-inside : (end p b : ℕ) (j : Bool) (s : List Placed) → p < end → Inside end s → Inside end (with_digit p b j s)
digit-inside end p b j [] l h = (l, tt)
digit-inside end p b true ((q, digits w) ∷ s) l h = (l, h.1)
digit-inside end p b false ((q, digits w) ∷ s) l h = (l, h)
digit-inside end p b j ((q, word w) ∷ s) l h = (l, h)
digit-inside end p b j ((q, mark c) ∷ s) l h = (l, h)

either : (end : ℕ) (b : Bool) (s r : List Placed) → Inside end s → Inside end r → Inside end (cond b s r)
either end true s r h k = h
either end false s r h k = k

byte_inside : (end p b : ℕ) (text : List ℕ) (s : List Placed) → p < end → Inside end s → Inside end (with_byte p b text s)
byte_inside end p b text s l h =
    either end (blank b) s _ h
    (either end (letter b) (with_letter p b (begins letter text) s) _ (letter-inside end p b (begins letter text) s l h)
    (either end (digit b) (with_digit p b (begins digit text) s) ((p, mark b) ∷ s) (digit-inside end p b (begins digit text) s l h) (l, h)))

lex-inside : (end : ℕ) (s : List ℕ) → length s ≤ end → Inside end (lex end s)
unfolding lex
lex-inside end [] l = tt
lex-inside end (b ∷ s) l = byte_inside end (end - length (b ∷ s)) b s (lex end s) (omega arith) (lex-inside end s (omega arith))

-- past one sign, and past a type
at : (end p : ℕ) (x : Sign) (s r : List Placed) → At p x s r → Inside end s → (p < end) × Inside end r
at end p x s r e h = subst (Inside end) e h

past : (end : ℕ) (x : Sign) (s r : List Placed) → Next x s r → Inside end s → Inside end r
past end x s r e h = (at end e.0 x s r e.1 h).1

past_type : (T : Ty) (end : ℕ) (s r : List Placed) → StandsType T s r → Inside end s → Inside end r
past_type N end s r e h = past end (mark 78) s r e h
past_type (A ⇒ B) end s r (s₁, a, (s₂, b, (s₃, c, (s₄, d, e)))) h = past end (mark 41) s₄ r e (past_type B end s₃ s₄ d (past end (mark 62) s₂ s₃ c (past_type A end s₁ s₂ b (past end (mark 40) s s₁ a h))))
past_type (A ⊗ B) end s r (s₁, a, (s₂, b, (s₃, c, (s₄, d, e)))) h = past end (mark 41) s₄ r e (past_type B end s₃ s₄ d (past end (mark 42) s₂ s₃ c (past_type A end s₁ s₂ b (past end (mark 40) s s₁ a h))))

-- binders with places below the end
abbrev Bounded : ℕ → List Binder → Type 0
Bounded end [] = Unit {0}
Bounded end (x ∷ σ) = (x.place < end) × Bounded end σ

bounded_more : (end : ℕ) (σ ρ : List Binder) → Bounded end σ → Bounded end ρ → Bounded end (σ ++ ρ)
bounded_more end [] ρ g h = h
bounded_more end (x ∷ σ) ρ g h = (g.0, bounded_more end σ ρ g.1 h)

binder_below : (end : ℕ) (w : Name) (σ : List Binder) (p : ℕ) → Bounded end σ → p < end → binder_of w σ p < end
binder_below end w [] p h l = l
binder_below end w (x ∷ σ) p h l = go (bytes_eq w x.name) (binder_below end w σ)
  where
    go : (b : Bool) → ((q : ℕ) → Bounded end σ → q < end → binder_of w σ q < end) → binder_of w σ (cond b x.place p) < end
    go true k = k x.place h.1 h.0
    go false k = k p h.1 l

-- a term that such signs spell has its variables below the end
placed : (t : Tree Name) (end : ℕ) (σ : List Binder) (s r : List Placed) → Stands t s r → Bounded end σ → Inside end s → Below end (erase (resolve σ t)) × Inside end r
placed (occ p w) end σ s r e g h = let a = at end p (word w) s r e.1 h in (binder_below end w σ p g a.0, a.1)
placed (num p n) end σ s r e g h = (tt, (at end p (digits e.0) s r e.3 h).1)
placed (succ p t) end σ s r (s₁, a, b) g h = placed t end σ s₁ r b g (at end p _ s s₁ a h).1
placed (lam p x T t) end σ s r (s₁, a, (s₂, b, (s₃, c, (s₄, d, (s₅, e, f))))) g h =
    let y = at end x.place (word x.name) s₁ s₂ b.1 (at end p _ s s₁ a h).1 in
    let z = placed t end (σ ++ (x ∷ [])) s₅ r f (bounded_more end σ (x ∷ []) g (y.0, tt)) (past end _ s₄ s₅ e (past_type T end s₃ s₄ d (past end _ s₂ s₃ c y.1))) in
    ((y.0, z.0), z.1)
placed (app p t u) end σ s r (s₁, a, (s₂, b, (s₃, c, d))) g h =
    let x = placed t end σ s₁ s₂ b g (at end p _ s s₁ a h).1 in
    let y = placed u end σ s₂ s₃ c g x.1 in
    ((x.0, y.0), past end _ s₃ r d y.1)
placed (pair p t u) end σ s r (s₁, a, (s₂, b, (s₃, c, (s₄, d, e)))) g h =
    let x = placed t end σ s₁ s₂ b g (at end p _ s s₁ a h).1 in
    let y = placed u end σ s₃ s₄ d g (past end _ s₂ s₃ c x.1) in
    ((x.0, y.0), past end _ s₄ r e y.1)
placed (split p x y t u) end σ s r (s₁, a, (s₂, b, (s₃, c, (s₄, d, (s₅, e, (s₆, f, (s₇, i, (s₈, j, (s₉, k, l))))))))) g h =
    let m = at end x.place (word x.name) s₂ s₃ c.1 (past end _ s₁ s₂ b (at end p _ s s₁ a h).1) in
    let n = at end y.place (word y.name) s₄ s₅ e.1 (past end _ s₃ s₄ d m.1) in
    let v = placed t end σ s₇ s₈ j g (past end _ s₆ s₇ i (past end _ s₅ s₆ f n.1)) in
    let w = placed u end (σ ++ (x ∷ y ∷ [])) s₉ r l (bounded_more end σ (x ∷ y ∷ []) g (m.0, (n.0, tt))) (past end _ s₈ s₉ k v.1) in
    ((m.0, n.0, v.0, w.0), w.1)
placed (iter p t u v) end σ s r (s₁, a, (s₂, b, (s₃, c, d))) g h =
    let x = placed t end σ s₁ s₂ b g (at end p _ s s₁ a h).1 in
    let y = placed u end σ s₂ s₃ c g x.1 in
    let z = placed v end σ s₃ r d g y.1 in
    ((x.0, y.0, z.0), z.1)

pub spelled_below : (text : List ℕ) (t : Tree Name) → Spells text t → Below (length text) (erase (resolve [] t))
spelled_below text t h = (placed t (length text) [] (signs_of text) [] h tt (lex-inside (length text) text (omega arith))).0

-- names resolved leave the number of sub-terms
pub sizes : (t : Tree Name) (σ : List Binder) → subterms (erase (resolve σ t)) ≡ size t
sizes (occ p w) σ = refl
sizes (num p n) σ = refl
sizes (succ p t) σ = ap suc (sizes t σ)
sizes (lam p x T t) σ = ap suc (sizes t (σ ++ (x ∷ [])))
sizes (app p t u) σ = omega (arith, sizes t σ, sizes u σ)
sizes (pair p t u) σ = omega (arith, sizes t σ, sizes u σ)
sizes (split p x y t u) σ = omega (arith, sizes t σ, sizes u (σ ++ (x ∷ y ∷ [])))
sizes (iter p t u v) σ = omega (arith, sizes t σ, sizes u σ, sizes v σ)

-- and the numbers
pub numbers : (t : Tree Name) (σ : List Binder) (b : ℕ) → largest t ≤ b → NumbersWithin b (erase (resolve σ t))
numbers (occ p w) σ b l = tt
numbers (num p n) σ b l = l
numbers (succ p t) σ b l = numbers t σ b l
numbers (lam p x T t) σ b l = numbers t (σ ++ (x ∷ [])) b l
numbers (app p t u) σ b l = (numbers t σ b (omega arith), numbers u σ b (omega arith))
numbers (pair p t u) σ b l = (numbers t σ b (omega arith), numbers u σ b (omega arith))
numbers (split p x y t u) σ b l = (numbers t σ b (omega arith), numbers u (σ ++ (x ∷ y ∷ [])) b (omega arith))
numbers (iter p t u v) σ b l = (numbers t σ b (omega arith), numbers u σ b (omega arith), numbers v σ b (omega arith))

-- the whole is the last of its sub-terms
pub last_of : (t : Tree ℕ) (subs : List Subterm) (cells : List TypeCell) (k i : ℕ) → Spans subs cells k i t → suc i ≡ k + subterms (erase t)
last_of (occ p b) subs cells k i (h, e) = omega arith
last_of (num p n) subs cells k i (h, e) = omega arith
last_of (succ p t) subs cells k i (j, h, e, d) = omega (arith, e, last_of t subs cells k j d)
last_of (lam p x T t) subs cells k i (a, j, h, e, y, d) = omega (arith, e, last_of t subs cells k j d)
last_of (app p t u) subs cells k i (j, l, h, e, d, f) = omega (arith, e, last_of t subs cells k j d, last_of u subs cells (suc j) l f)
last_of (pair p t u) subs cells k i (j, l, h, e, d, f) = omega (arith, e, last_of t subs cells k j d, last_of u subs cells (suc j) l f)
last_of (split p x y t u) subs cells k i (j, l, h, e, d, f) = omega (arith, e, last_of t subs cells k j d, last_of u subs cells (suc j) l f)
last_of (iter p t u v) subs cells k i (j, l, m, h, e, d, f, g) = omega (arith, e, last_of t subs cells k j d, last_of u subs cells (suc j) l f, last_of v subs cells (suc l) m g)
