-- What stands in memory once a term is laid out there.
use Rattle.std.proofs.Common.{◌≡◌, ℕ, suc, ◌+◌, ◌-◌, ◌<◌, ◌≤◌, List, [], ◌∷◌, ◌++◌, length, get_or, sym, refl, ap, ◌∙◌, append_assoc, append-nil, arith, length-append}
use Rattle.std.proofs.lemmas.List.{get_or_append_left, get_or-append_right}
use Rattle.calculus.specs.Types.{Ty, ◌⇒◌, ◌⊗◌, signs}
use Rattle.syntax.specs.declared.program.TypeCell.{TypeCell}
use Rattle.syntax.specs.declared.program.TypeCell.TheVariants as cell
use Rattle.syntax.specs.declared.program.Shape.{Shape}
use Rattle.syntax.specs.declared.program.Shape.TheVariants.{Variable, Number, Successor, Function, Application, Pair, Let, Iterator}
use Rattle.syntax.specs.declared.program.Subterm.{Subterm}
use Rattle.syntax.specs.Trees.{Tree, occ, num, succ, lam, app, pair, split, iter}
use Rattle.syntax.specs.Grammar.{size}
use Rattle.syntax.specs.Program.{Is, DenotesType, Denotes}
use Rattle.syntax.specs.Layout.{top, push, with_type, with_types, with_term}
use Rattle.syntax.specs.Answer.{Spans}

-- b begins as a does
abbrev pub Extends : {X : Type 0} → List X → List X → Type 0
Extends {X} a b = (more : List X) × (b ≡ a ++ more)

further : {X : Type 0} (a b c : List X) → Extends a b → Extends b c → Extends a c
further a b c (m, e) (n, g) = (m ++ n, g ∙ ap (λ l. l ++ n) e ∙ append_assoc a m n)

pushed : {X : Type 0} (a : List X) (x : X) (b : List X) → Extends (a ++ (x ∷ [])) b → Extends a b
pushed a x b h = further a (a ++ (x ∷ [])) b (x ∷ [], refl) h

-- the element that was put after a stands there in whatever goes on from it
at_end : {X : Type 0} (a : List X) (x d : X) (b : List X) → Extends (a ++ (x ∷ [])) b → get_or b (length a) d ≡ x
at_end a x d b (m, e) =
    ap (λ l. get_or l (length a) d) e ∙ get_or_append_left (a ++ (x ∷ [])) m d (length a) (omega (arith, length-append a (x ∷ []))) ∙ get_or-append_right a (x ∷ []) (length a) (length a) d refl (omega arith) ∙ ap (λ n. get_or (x ∷ []) n d) (let z : length a - length a ≡ 0 = omega arith in z)

longer : {X : Type 0} (a b : List X) → Extends a b → length a ≤ length b
longer a b (m, e) = omega (arith, ap length e, length-append a m)

-- types
joint_grows : (last : TypeCell) (c ca cb : List TypeCell) (m n : ℕ) → Extends c ca × (length ca ≡ length c + m) → Extends ca cb × (length cb ≡ length ca + n) → Extends c (cb ++ (last ∷ [])) × (length (cb ++ (last ∷ [])) ≡ length c + suc (m + n))
joint_grows last c ca cb m n a b = (further c cb _ (further c ca _ a.0 b.0) (last ∷ [], refl), length-append cb (last ∷ []) ∙ omega (arith, a.1, b.1))

type_grows : (T : Ty) (c : List TypeCell) → Extends c (with_type T c) × (length (with_type T c) ≡ length c + signs T)
type_grows Ty.N c = ((cell.N ∷ [], refl), length-append c (cell.N ∷ []))
type_grows (A ⇒ B) c =
    joint_grows (cell.Arrow (top (with_type A c)) (top (with_type B (with_type A c)))) c (with_type A c) (with_type B (with_type A c)) (signs A) (signs B) (type_grows A c) (type_grows B (with_type A c))
type_grows (A ⊗ B) c =
    joint_grows (cell.Product (top (with_type A c)) (top (with_type B (with_type A c)))) c (with_type A c) (with_type B (with_type A c)) (signs A) (signs B) (type_grows A c) (type_grows B (with_type A c))

signs_some : (T : Ty) → 1 ≤ signs T
signs_some Ty.N = omega arith
signs_some (A ⇒ B) = omega arith
signs_some (A ⊗ B) = omega arith

-- the cell of a type of two parts, and where its parts end
record Joined (last : TypeCell) (ca cb C : List TypeCell) : Type 0 where
  pub there : top (cb ++ (last ∷ [])) < length C
  pub is : get_or C (top (cb ++ (last ∷ []))) cell.N ≡ last
  pub left : top ca < top (cb ++ (last ∷ []))
  pub right : top cb < top (cb ++ (last ∷ []))
  pub first : Extends ca C
  pub second : Extends cb C

joint_lies : (last : TypeCell) (A B : Ty) (c C : List TypeCell) → Extends (with_type B (with_type A c) ++ (last ∷ [])) C → Joined last (with_type A c) (with_type B (with_type A c)) C
joint_lies last A B c C h =
    let ca = with_type A c in
    let cb = with_type B ca in
    let hb = pushed cb last C h in
    let l = longer (cb ++ (last ∷ [])) C h in
    let i : length cb ≡ top (cb ++ (last ∷ [])) = omega (arith, length-append cb (last ∷ [])) in
    let na = (type_grows A c).1 in
    let nb = (type_grows B ca).1 in
    let sa = signs_some A in
    let sb = signs_some B in
    record { there = omega (arith, length-append cb (last ∷ [])); is = ap (λ n. get_or C n cell.N) (sym i) ∙ at_end cb last cell.N C h; left = omega arith; right = omega arith; first = further ca cb C (type_grows B ca).0 hb; second = hb }

pub type_lies : (T : Ty) (c C : List TypeCell) → Extends (with_type T c) C → DenotesType C (top (with_type T c)) T
type_lies Ty.N c C h =
    let l = longer (c ++ (cell.N ∷ [])) C h in
    let i : length c ≡ top (c ++ (cell.N ∷ [])) = omega (arith, length-append c (cell.N ∷ [])) in
    (omega (arith, length-append c (cell.N ∷ [])), ap (λ n. get_or C n cell.N) (sym i) ∙ at_end c cell.N cell.N C h)
type_lies (A ⇒ B) c C h =
    let l = joint_lies (cell.Arrow (top (with_type A c)) (top (with_type B (with_type A c)))) A B c C h in
    (top (with_type A c), top (with_type B (with_type A c)), l.there, l.is, l.left, l.right, type_lies A c C l.first, type_lies B (with_type A c) C l.second)
type_lies (A ⊗ B) c C h =
    let l = joint_lies (cell.Product (top (with_type A c)) (top (with_type B (with_type A c)))) A B c C h in
    (top (with_type A c), top (with_type B (with_type A c)), l.there, l.is, l.left, l.right, type_lies A c C l.first, type_lies B (with_type A c) C l.second)

pub types_grow : (t : Tree ℕ) (c : List TypeCell) → Extends c (with_types t c)
types_grow (occ p b) c = ([], sym (append-nil c))
types_grow (num p n) c = ([], sym (append-nil c))
types_grow (succ p t) c = types_grow t c
types_grow (lam p x T t) c = further c (with_type T c) _ (type_grows T c).0 (types_grow t (with_type T c))
types_grow (app p t u) c = further c (with_types t c) _ (types_grow t c) (types_grow u (with_types t c))
types_grow (pair p t u) c = further c (with_types t c) _ (types_grow t c) (types_grow u (with_types t c))
types_grow (split p x y t u) c = further c (with_types t c) _ (types_grow t c) (types_grow u (with_types t c))
types_grow (iter p t u v) c = further c (with_types u (with_types t c)) _ (further c (with_types t c) _ (types_grow t c) (types_grow u (with_types t c))) (types_grow v (with_types u (with_types t c)))

push_grows : (p : ℕ) (shape : Shape) (a s : List Subterm) → Extends a s → Extends a (push p shape s)
push_grows p shape a s h = further a s (push p shape s) h (record { place = p; shape = shape } ∷ [], refl)

two_grow : (p : ℕ) (shape : Shape) (s r₁ r₂ : List Subterm) (m n : ℕ) → Extends s r₁ × (length r₁ ≡ length s + m) → Extends r₁ r₂ × (length r₂ ≡ length r₁ + n) → Extends s (push p shape r₂) × (length (push p shape r₂) ≡ length s + suc (m + n))
two_grow p shape s r₁ r₂ m n a b = (push_grows p shape s r₂ (further s r₁ r₂ a.0 b.0), length-append r₂ (record { place = p; shape = shape } ∷ []) ∙ omega (arith, a.1, b.1))

term_grows : (t : Tree ℕ) (s : List Subterm) (c : List TypeCell) → Extends s (with_term t s c) × (length (with_term t s c) ≡ length s + size t)
term_grows (occ p b) s c = ((record { place = p; shape = Variable b } ∷ [], refl), length-append s (record { place = p; shape = Variable b } ∷ []))
term_grows (num p n) s c = ((record { place = p; shape = Number n } ∷ [], refl), length-append s (record { place = p; shape = Number n } ∷ []))
term_grows (succ p t) s c =
    let a = term_grows t s c in
    (push_grows p (Successor (top (with_term t s c))) s (with_term t s c) a.0, length-append (with_term t s c) (record { place = p; shape = Successor (top (with_term t s c)) } ∷ []) ∙ omega (arith, a.1))
term_grows (lam p x T t) s c =
    let a = term_grows t s (with_type T c) in
    let r = with_term t s (with_type T c) in
    let sh = Function x.place (top (with_type T c)) (top r) in
    (push_grows p sh s r a.0, length-append r (record { place = p; shape = sh } ∷ []) ∙ omega (arith, a.1))
term_grows (app p t u) s c =
    let r₁ = with_term t s c in
    let r₂ = with_term u r₁ (with_types t c) in
    two_grow p (Application (top r₁) (top r₂)) s r₁ r₂ (size t) (size u) (term_grows t s c) (term_grows u r₁ (with_types t c))
term_grows (pair p t u) s c =
    let r₁ = with_term t s c in
    let r₂ = with_term u r₁ (with_types t c) in
    two_grow p (Pair (top r₁) (top r₂)) s r₁ r₂ (size t) (size u) (term_grows t s c) (term_grows u r₁ (with_types t c))
term_grows (split p x y t u) s c =
    let r₁ = with_term t s c in
    let r₂ = with_term u r₁ (with_types t c) in
    two_grow p (Let x.place y.place (top r₁) (top r₂)) s r₁ r₂ (size t) (size u) (term_grows t s c) (term_grows u r₁ (with_types t c))
term_grows (iter p t u v) s c =
    let r₁ = with_term t s c in
    let r₂ = with_term u r₁ (with_types t c) in
    let r₃ = with_term v r₂ (with_types u (with_types t c)) in
    let a = term_grows t s c in
    let b = term_grows u r₁ (with_types t c) in
    let e = term_grows v r₂ (with_types u (with_types t c)) in
    let sh = Iterator (top r₁) (top r₂) (top r₃) in
    (push_grows p sh s r₃ (further s r₂ r₃ (further s r₁ r₂ a.0 b.0) e.0), length-append r₃ (record { place = p; shape = sh } ∷ []) ∙ omega (arith, a.1, b.1, e.1))

size_some : (t : Tree ℕ) → 1 ≤ size t
size_some (occ p b) = omega arith
size_some (num p n) = omega arith
size_some (succ p t) = omega arith
size_some (lam p x T t) = omega arith
size_some (app p t u) = omega arith
size_some (pair p t u) = omega arith
size_some (split p x y t u) = omega arith
size_some (iter p t u v) = omega arith

-- the next part begins after the last sub-term of this one
next-first : (t : Tree ℕ) (s : List Subterm) (c : List TypeCell) → length (with_term t s c) ≡ suc (top (with_term t s c))
next-first t s c = let a = (term_grows t s c).1 in let b = size_some t in omega arith

is_there : (p : ℕ) (shape : Shape) (r S : List Subterm) → Extends (push p shape r) S → Is S (top (push p shape r)) p shape
is_there p shape r S h =
    let l = longer (push p shape r) S h in
    let i : length r ≡ top (push p shape r) = omega (arith, length-append r (record { place = p; shape = shape } ∷ [])) in
    record { there = omega (arith, length-append r (record { place = p; shape = shape } ∷ [])); is = ap (λ n. get_or S n (record { place = 0; shape = Number 0 })) (sym i) ∙ at_end r (record { place = p; shape = shape }) (record { place = 0; shape = Number 0 }) S h }

top-next : (p : ℕ) (shape : Shape) (r : List Subterm) → 1 ≤ length r → top (push p shape r) ≡ suc (top r)
top-next p shape r h = omega (arith, length-append r (record { place = p; shape = shape } ∷ []))

some_there : (t : Tree ℕ) (s : List Subterm) (c : List TypeCell) → 1 ≤ length (with_term t s c)
some_there t s c = let a = (term_grows t s c).1 in let b = size_some t in omega arith

-- a sub-term of two parts, and where its parts end
record Two (p : ℕ) (shape : Shape) (r₁ r₂ S : List Subterm) (c₁ C : List TypeCell) : Type 0 where
  pub is : Is S (top (push p shape r₂)) p shape
  pub next : top (push p shape r₂) ≡ suc (top r₂)
  pub first : Extends r₁ S
  pub second : Extends r₂ S
  pub types : Extends c₁ C

two_lie : (p : ℕ) (shape : Shape) (u : Tree ℕ) (r₁ S : List Subterm) (c₁ C : List TypeCell) → Extends (push p shape (with_term u r₁ c₁)) S → Extends (with_types u c₁) C → Two p shape r₁ (with_term u r₁ c₁) S c₁ C
two_lie p shape u r₁ S c₁ C h g =
    let r₂ = with_term u r₁ c₁ in
    let h₂ = pushed r₂ (record { place = p; shape = shape }) S h in
    record { is = is_there p shape r₂ S h; next = top-next p shape r₂ (some_there u r₁ c₁); first = further r₁ r₂ S (term_grows u r₁ c₁).0 h₂; second = h₂; types = further c₁ (with_types u c₁) C (types_grow u c₁) g }

pub spans : (t : Tree ℕ) (s : List Subterm) (c : List TypeCell) (S : List Subterm) (C : List TypeCell) (k : ℕ) → k ≡ length s → Extends (with_term t s c) S → Extends (with_types t c) C → Spans S C k (top (with_term t s c)) t
spans (occ p b) s c S C k e h g = (is_there p (Variable b) s S h, omega (arith, length-append s (record { place = p; shape = Variable b } ∷ [])))
spans (num p n) s c S C k e h g = (is_there p (Number n) s S h, omega (arith, length-append s (record { place = p; shape = Number n } ∷ [])))
spans (succ p t) s c S C k e h g =
    let r = with_term t s c in
    let sh = Successor (top r) in
    (top r, is_there p sh r S h, top-next p sh r (some_there t s c), spans t s c S C k e (pushed r (record { place = p; shape = sh }) S h) g)
spans (lam p x T t) s c S C k e h g =
    let r = with_term t s (with_type T c) in
    let sh = Function x.place (top (with_type T c)) (top r) in
    (top (with_type T c), top r, is_there p sh r S h, top-next p sh r (some_there t s (with_type T c)), type_lies T c C (further (with_type T c) (with_types t (with_type T c)) C (types_grow t (with_type T c)) g), spans t s (with_type T c) S C k e (pushed r (record { place = p; shape = sh }) S h) g)
spans (app p t u) s c S C k e h g =
    let r = with_term t s c in
    let l = two_lie p (Application (top r) (top (with_term u r (with_types t c)))) u r S (with_types t c) C h g in
    (top r, top (with_term u r (with_types t c)), l.is, l.next, spans t s c S C k e l.first l.types, spans u r (with_types t c) S C (suc (top r)) (sym (next-first t s c)) l.second g)
spans (pair p t u) s c S C k e h g =
    let r = with_term t s c in
    let l = two_lie p (Pair (top r) (top (with_term u r (with_types t c)))) u r S (with_types t c) C h g in
    (top r, top (with_term u r (with_types t c)), l.is, l.next, spans t s c S C k e l.first l.types, spans u r (with_types t c) S C (suc (top r)) (sym (next-first t s c)) l.second g)
spans (split p x y t u) s c S C k e h g =
    let r = with_term t s c in
    let l = two_lie p (Let x.place y.place (top r) (top (with_term u r (with_types t c)))) u r S (with_types t c) C h g in
    (top r, top (with_term u r (with_types t c)), l.is, l.next, spans t s c S C k e l.first l.types, spans u r (with_types t c) S C (suc (top r)) (sym (next-first t s c)) l.second g)
spans (iter p t u v) s c S C k e h g =
    let c₁ = with_types t c in
    let c₂ = with_types u c₁ in
    let r₁ = with_term t s c in
    let r₂ = with_term u r₁ c₁ in
    let r₃ = with_term v r₂ c₂ in
    let sh = Iterator (top r₁) (top r₂) (top r₃) in
    let h₃ = pushed r₃ (record { place = p; shape = sh }) S h in
    let h₂ = further r₂ r₃ S (term_grows v r₂ c₂).0 h₃ in
    let h₁ = further r₁ r₂ S (term_grows u r₁ c₁).0 h₂ in
    let g₂ = further c₂ (with_types v c₂) C (types_grow v c₂) g in
    let g₁ = further c₁ c₂ C (types_grow u c₁) g₂ in
    (top r₁, top r₂, top r₃, is_there p sh r₃ S h, top-next p sh r₃ (some_there v r₂ c₂), spans t s c S C k e h₁ g₁, spans u r₁ c₁ S C (suc (top r₁)) (sym (next-first t s c)) h₂ g₂, spans v r₂ c₂ S C (suc (top r₂)) (sym (next-first u r₁ c₁)) h₃ g)

-- the first sub-term of a term is not after it
span_order : (t : Tree ℕ) (S : List Subterm) (C : List TypeCell) (k i : ℕ) → Spans S C k i t → k ≤ i
span_order (occ p b) S C k i x = omega (arith, x.1)
span_order (num p n) S C k i x = omega (arith, x.1)
span_order (succ p t) S C k i (j, a, b, x) = let o = span_order t S C k j x in omega arith
span_order (lam p y T t) S C k i (q, j, a, b, d, x) = let o = span_order t S C k j x in omega arith
span_order (app p t u) S C k i (j, l, a, b, x, y) = let o = span_order t S C k j x in let q = span_order u S C (suc j) l y in omega arith
span_order (pair p t u) S C k i (j, l, a, b, x, y) = let o = span_order t S C k j x in let q = span_order u S C (suc j) l y in omega arith
span_order (split p f g t u) S C k i (j, l, a, b, x, y) = let o = span_order t S C k j x in let q = span_order u S C (suc j) l y in omega arith
span_order (iter p t u v) S C k i (j, l, m, a, b, x, y, z) = let o = span_order t S C k j x in let q = span_order u S C (suc j) l y in let r = span_order v S C (suc l) m z in omega arith

-- what spans is what is denoted
pub span_denotes : (t : Tree ℕ) (S : List Subterm) (C : List TypeCell) (k i : ℕ) → Spans S C k i t → Denotes S C i t
span_denotes (occ p b) S C k i x = x.0
span_denotes (num p n) S C k i x = x.0
span_denotes (succ p t) S C k i (j, a, b, x) = (j, a, omega arith, span_denotes t S C k j x)
span_denotes (lam p y T t) S C k i (q, j, a, b, d, x) = (q, j, a, omega arith, d, span_denotes t S C k j x)
span_denotes (app p t u) S C k i (j, l, a, b, x, y) = let q = span_order u S C (suc j) l y in (j, l, a, omega arith, omega arith, span_denotes t S C k j x, span_denotes u S C (suc j) l y)
span_denotes (pair p t u) S C k i (j, l, a, b, x, y) = let q = span_order u S C (suc j) l y in (j, l, a, omega arith, omega arith, span_denotes t S C k j x, span_denotes u S C (suc j) l y)
span_denotes (split p f g t u) S C k i (j, l, a, b, x, y) = let q = span_order u S C (suc j) l y in (j, l, a, omega arith, omega arith, span_denotes t S C k j x, span_denotes u S C (suc j) l y)
span_denotes (iter p t u v) S C k i (j, l, m, a, b, x, y, z) = let q = span_order u S C (suc j) l y in let r = span_order v S C (suc l) m z in (j, l, m, a, omega arith, omega arith, omega arith, span_denotes t S C k j x, span_denotes u S C (suc j) l y, span_denotes v S C (suc l) m z)

-- a term laid out in empty memory
pub laid_spans : (t : Tree ℕ) → Spans (with_term t [] []) (with_types t []) 0 (top (with_term t [] [])) t
laid_spans t = spans t [] [] (with_term t [] []) (with_types t []) 0 refl ([], sym (append-nil (with_term t [] []))) ([], sym (append-nil (with_types t [])))
