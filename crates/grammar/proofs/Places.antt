-- The places of signs rise from the left, and so do those in a term that they spell.
use Rattle.std.proofs.Common.{◌≡◌, ℕ, suc, ◌-◌, ◌<◌, ◌≤◌, Bool, true, false, cond, List, [], ◌∷◌, length, subst, arith}
use Rattle.calculus.specs.Types.{Ty, N, ◌⇒◌, ◌⊗◌}
use Rattle.syntax.specs.Trees.{Name, Tree, occ, num, succ, lam, app, pair, split, iter}
use Rattle.syntax.specs.Signs.{Sign, word, digits, mark, Placed, blank, letter, digit, begins, with_letter, with_digit, with_byte, lex, signs_of}
use Rattle.syntax.specs.Grammar.{Next, At, StandsType, Stands, Spells}

-- places from lo on, each past the one before
abbrev pub Rising : ℕ → List Placed → Type 0
Rising lo [] = Unit {0}
Rising lo ((p, x) ∷ s) = (lo ≤ p) × Rising (suc p) s

weaken : (a b : ℕ) (s : List Placed) → b ≤ a → Rising a s → Rising b s
weaken a b [] l h = tt
weaken a b ((p, x) ∷ s) l h = (omega (arith, h.0), h.1)

letter_rising : (p b : ℕ) (j : Bool) (s : List Placed) → Rising (suc p) s → Rising p (with_letter p b j s)
letter_rising p b j [] h = (omega arith, tt)
letter_rising p b true ((q, word w) ∷ s) h = (omega arith, weaken (suc q) (suc p) s (omega (arith, h.0)) h.1)
letter_rising p b false ((q, word w) ∷ s) h = (omega arith, h)
letter_rising p b j ((q, digits w) ∷ s) h = (omega arith, h)
letter_rising p b j ((q, mark c) ∷ s) h = (omega arith, h)

digit_rising : (p b : ℕ) (j : Bool) (s : List Placed) → Rising (suc p) s → Rising p (with_digit p b j s)
digit_rising p b j [] h = (omega arith, tt)
digit_rising p b true ((q, digits w) ∷ s) h = (omega arith, weaken (suc q) (suc p) s (omega (arith, h.0)) h.1)
digit_rising p b false ((q, digits w) ∷ s) h = (omega arith, h)
digit_rising p b j ((q, word w) ∷ s) h = (omega arith, h)
digit_rising p b j ((q, mark c) ∷ s) h = (omega arith, h)

either : (lo : ℕ) (b : Bool) (s r : List Placed) → Rising lo s → Rising lo r → Rising lo (cond b s r)
either lo true s r h k = h
either lo false s r h k = k

byte_rising : (p b : ℕ) (text : List ℕ) (s : List Placed) → Rising (suc p) s → Rising p (with_byte p b text s)
byte_rising p b text s h =
    either p (blank b) s _ (weaken (suc p) p s (omega arith) h)
    (either p (letter b) (with_letter p b (begins letter text) s) _ (letter_rising p b (begins letter text) s h)
    (either p (digit b) (with_digit p b (begins digit text) s) ((p, mark b) ∷ s) (digit_rising p b (begins digit text) s h) (omega arith, h)))

lex_rising : (end : ℕ) (s : List ℕ) → length s ≤ end → Rising (end - length s) (lex end s)
unfolding lex
lex_rising end [] l = tt
lex_rising end (b ∷ s) l =
    let p = end - length (b ∷ s) in
    byte_rising p b s (lex end s) (subst (λ n. Rising n (lex end s)) (let e : end - length s ≡ suc p = omega arith in e) (lex_rising end s (omega arith)))

pub rising : (text : List ℕ) → Rising 0 (signs_of text)
rising text = subst (λ n. Rising n (signs_of text)) (let e : length text - length text ≡ 0 = omega arith in e) (lex_rising (length text) text (omega arith))

-- places from lo on, and past a binder in its scope
abbrev pub Ordered : {U : Type 0} → ℕ → Tree U → Type 0
Ordered lo (occ p x) = lo ≤ p
Ordered lo (num p n) = Unit {0}
Ordered lo (succ p t) = Ordered lo t
Ordered lo (lam p x T t) = (lo ≤ x.place) × Ordered (suc x.place) t
Ordered lo (app p t u) = Ordered lo t × Ordered lo u
Ordered lo (pair p t u) = Ordered lo t × Ordered lo u
Ordered lo (split p x y t u) = (lo ≤ x.place) × (x.place < y.place) × Ordered lo t × Ordered (suc y.place) u
Ordered lo (iter p t u v) = Ordered lo t × Ordered lo u × Ordered lo v

-- past one sign, and past a type
at : (lo p : ℕ) (x : Sign) (s r : List Placed) → At p x s r → Rising lo s → (lo ≤ p) × Rising (suc p) r
at lo p x s r e h = subst (Rising lo) e h

past : (lo : ℕ) (x : Sign) (s r : List Placed) → Next x s r → Rising lo s → Rising lo r
past lo x s r e h = let a = at lo e.0 x s r e.1 h in weaken (suc e.0) lo r (omega (arith, a.0)) a.1

past_at : (lo p : ℕ) (x : Sign) (s r : List Placed) → At p x s r → Rising lo s → Rising lo r
past_at lo p x s r e h = past lo x s r (p, e) h

past_type : (T : Ty) (lo : ℕ) (s r : List Placed) → StandsType T s r → Rising lo s → Rising lo r
past_type N lo s r e h = past lo (mark 78) s r e h
past_type (A ⇒ B) lo s r (s₁, a, (s₂, b, (s₃, c, (s₄, d, e)))) h = past lo (mark 41) s₄ r e (past_type B lo s₃ s₄ d (past lo (mark 62) s₂ s₃ c (past_type A lo s₁ s₂ b (past lo (mark 40) s s₁ a h))))
past_type (A ⊗ B) lo s r (s₁, a, (s₂, b, (s₃, c, (s₄, d, e)))) h = past lo (mark 41) s₄ r e (past_type B lo s₃ s₄ d (past lo (mark 42) s₂ s₃ c (past_type A lo s₁ s₂ b (past lo (mark 40) s s₁ a h))))

-- places from lo on and below hi, those of a part before those of the next, and past a binder in its scope
abbrev pub Spans : {U : Type 0} → ℕ → ℕ → Tree U → Type 0
Spans lo hi (occ p x) = (lo ≤ p) × (p < hi)
Spans lo hi (num p n) = lo ≤ hi
Spans lo hi (succ p t) = Spans lo hi t
Spans lo hi (lam p x T t) = (lo ≤ x.place) × Spans (suc x.place) hi t
Spans lo hi (app p t u) = (mid : ℕ) × Spans lo mid t × Spans mid hi u
Spans lo hi (pair p t u) = (mid : ℕ) × Spans lo mid t × Spans mid hi u
Spans lo hi (split p x y t u) = (mid : ℕ) × (lo ≤ x.place) × (x.place < y.place) × Spans (suc y.place) mid t × Spans mid hi u
Spans lo hi (iter p t u v) = (mid : ℕ) × (mid' : ℕ) × Spans lo mid t × Spans mid mid' u × Spans mid' hi v

pub spans_up : {U : Type 0} (t : Tree U) (lo hi : ℕ) → Spans lo hi t → lo ≤ hi
spans_up (occ p x) lo hi h = omega (arith, h.0, h.1)
spans_up (num p n) lo hi h = h
spans_up (succ p t) lo hi h = spans_up t lo hi h
spans_up (lam p x T t) lo hi h = omega (arith, h.0, spans_up t (suc x.place) hi h.1)
spans_up (app p t u) lo hi (m, a, b) = omega (arith, spans_up t lo m a, spans_up u m hi b)
spans_up (pair p t u) lo hi (m, a, b) = omega (arith, spans_up t lo m a, spans_up u m hi b)
spans_up (split p x y t u) lo hi (m, l, k, a, b) = omega (arith, l, k, spans_up t (suc y.place) m a, spans_up u m hi b)
spans_up (iter p t u v) lo hi (m, n, a, b, c) = omega (arith, spans_up t lo m a, spans_up u m n b, spans_up v n hi c)

pub lower : {U : Type 0} (t : Tree U) (lo hi l : ℕ) → l ≤ lo → Spans lo hi t → Ordered l t
lower (occ p x) lo hi l k h = omega (arith, h.0)
lower (num p n) lo hi l k h = tt
lower (succ p t) lo hi l k h = lower t lo hi l k h
lower (lam p x T t) lo hi l k h = (omega (arith, h.0), lower t (suc x.place) hi (suc x.place) (omega arith) h.1)
lower (app p t u) lo hi l k (m, a, b) = (lower t lo m l k a, lower u m hi l (omega (arith, spans_up t lo m a)) b)
lower (pair p t u) lo hi l k (m, a, b) = (lower t lo m l k a, lower u m hi l (omega (arith, spans_up t lo m a)) b)
lower (split p x y t u) lo hi l k (m, i, j, a, b) = (omega arith, j, lower t (suc y.place) m l (omega arith) a, lower u m hi (suc y.place) (spans_up t (suc y.place) m a) b)
lower (iter p t u v) lo hi l k (m, n, a, b, c) = (lower t lo m l k a, lower u m n l (omega (arith, spans_up t lo m a)) b, lower v n hi l (omega (arith, spans_up t lo m a, spans_up u m n b)) c)

pub spans_ordered : {U : Type 0} (t : Tree U) (lo hi : ℕ) → Spans lo hi t → Ordered lo t
spans_ordered t lo hi h = lower t lo hi lo (omega arith) h

spans : (t : Tree Name) (lo : ℕ) (s r : List Placed) → Stands t s r → Rising lo s → (hi : ℕ) × Spans lo hi t × Rising hi r
spans (occ p w) lo s r e h = let a = at lo p (word w) s r e.1 h in (suc p, (a.0, omega arith), a.1)
spans (num p n) lo s r e h = (lo, omega arith, past_at lo p (digits e.0) s r e.3 h)
spans (succ p t) lo s r e h = spans t lo e.0 r e.2 (past_at lo p (mark 83) s e.0 e.1 h)
spans (lam p x T t) lo s r (s₁, a, (s₂, b, (s₃, c, (s₄, d, (s₅, e, f))))) h =
    let y = at lo x.place (word x.name) s₁ s₂ b.1 (past_at lo p (mark 92) s s₁ a h) in
    let n = suc x.place in
    let z = spans t n s₅ r f (past n (mark 46) s₄ s₅ e (past_type T n s₃ s₄ d (past n (mark 58) s₂ s₃ c y.1))) in
    (z.0, (y.0, z.1), z.2)
spans (app p t u) lo s r (s₁, a, (s₂, b, (s₃, c, d))) h =
    let x = spans t lo s₁ s₂ b (past_at lo p (mark 40) s s₁ a h) in
    let y = spans u x.0 s₂ s₃ c x.2 in
    (y.0, (x.0, x.1, y.1), past y.0 (mark 41) s₃ r d y.2)
spans (pair p t u) lo s r (s₁, a, (s₂, b, (s₃, c, (s₄, d, e)))) h =
    let x = spans t lo s₁ s₂ b (past_at lo p (mark 60) s s₁ a h) in
    let y = spans u x.0 s₃ s₄ d (past x.0 (mark 44) s₂ s₃ c x.2) in
    (y.0, (x.0, x.1, y.1), past y.0 (mark 62) s₄ r e y.2)
spans (split p x y t u) lo s r (s₁, a, (s₂, b, (s₃, c, (s₄, d, (s₅, e, (s₆, f, (s₇, g, (s₈, i, (s₉, j, k))))))))) h =
    let m = at lo x.place (word x.name) s₂ s₃ c.1 (past lo (mark 60) s₁ s₂ b (past_at lo p _ s s₁ a h)) in
    let n = at (suc x.place) y.place (word y.name) s₄ s₅ e.1 (past (suc x.place) (mark 44) s₃ s₄ d m.1) in
    let l = suc y.place in
    let v = spans t l s₇ s₈ i (past l (mark 61) s₆ s₇ g (past l (mark 62) s₅ s₆ f n.1)) in
    let w = spans u v.0 s₉ r k (past v.0 _ s₈ s₉ j v.2) in
    (w.0, (v.0, m.0, n.0, v.1, w.1), w.2)
spans (iter p t u v) lo s r (s₁, a, (s₂, b, (s₃, c, d))) h =
    let x = spans t lo s₁ s₂ b (past_at lo p _ s s₁ a h) in
    let y = spans u x.0 s₂ s₃ c x.2 in
    let z = spans v y.0 s₃ r d y.2 in
    (z.0, (x.0, y.0, x.1, y.1, z.1), z.2)

pub spelled_spans : (text : List ℕ) (t : Tree Name) → Spells text t → (hi : ℕ) × Spans 0 hi t
spelled_spans text t h = let a = spans t 0 (signs_of text) [] h (rising text) in (a.0, a.1)
