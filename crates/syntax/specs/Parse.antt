-- Reading signs from the left: a term, or the first sign that cannot stand or passes a limit. Assumes nothing.
use Rattle.std.specs.Prelude.{ℕ, zero, suc, Bool, true, false, cond, ◌&&◌, List, [], ◌∷◌, ◌==◌, nat_le, nat_lt}
use Rattle.calculus.specs.Types.{Ty, N, ◌⇒◌, ◌⊗◌}
use Rattle.syntax.specs.declared.refusal.Fault.{Fault}
use Rattle.syntax.specs.declared.refusal.Fault.TheVariants.{WrongSign, LargeNumber, PassedLimit}
use Rattle.syntax.specs.declared.refusal.Refusal.{Refusal}
use Rattle.syntax.specs.declared.signs.Joint.{Joint}
use Rattle.syntax.specs.declared.signs.Joint.TheVariants.{Arrow, Product}
use Rattle.syntax.specs.Trees.{Name, Binder, Tree, occ, num, succ, lam, app, pair, split, iter}
use Rattle.syntax.specs.Signs.{Sign, word, digits, mark, Placed, is_let, is_in, is_iter, is_name, is_number, number_of}

-- what reading gives: a value and the signs after it, or a refusal
pub data Out (A : Type 0) : Type 0 where
  got : A → List Placed → Out A
  refused : Refusal → Out A

abbrev pub and_then : {A B : Type 0} → Out A → (A → List Placed → Out B) → Out B
and_then (got a s) k = k a s
and_then (refused f) k = refused f

abbrev pub refuse : {A : Type 0} → Fault → ℕ → Out A
refuse f p = refused (record { fault = f; place = p })

-- what is read only where there is room for it; else the sign at p passes a limit
abbrev pub limited : {A : Type 0} → Bool → ℕ → Out A → Out A
limited room p o = cond room o (refuse PassedLimit p)

abbrev pub is_mark : ℕ → Sign → Bool
is_mark m (mark b) = b == m
is_mark m (word w) = false
is_mark m (digits ds) = false

abbrev pub is_word_in : Sign → Bool
is_word_in (word w) = is_in w
is_word_in (digits ds) = false
is_word_in (mark b) = false

-- below, `end` is the text's length, the place of what is missing where signs run out

-- a sign of this kind, and no other
abbrev pub expect : ℕ → (Sign → Bool) → List Placed → Out (Unit {0})
expect end kind [] = refuse WrongSign end
expect end kind ((p, x) ∷ s) = cond (kind x) (got tt s) (refuse WrongSign p)

-- a name where it is bound
abbrev pub binder : ℕ → List Placed → Out Binder
binder end [] = refuse WrongSign end
binder end ((p, word w) ∷ s) = cond (is_name w) (got (record { place = p; name = w }) s) (refuse WrongSign p)
binder end ((p, digits ds) ∷ s) = refuse WrongSign p
binder end ((p, mark b) ∷ s) = refuse WrongSign p

-- the sign between the parts of a type, where n type signs stand before it
abbrev pub joint : ℕ → ℕ → List Placed → Out Joint
joint end n [] = refuse WrongSign end
joint end n ((p, mark b) ∷ s) = cond (b == 62) (limited (nat_lt n 2048) p (got Arrow s)) (cond (b == 42) (limited (nat_lt n 2048) p (got Product s)) (refuse WrongSign p))
joint end n ((p, word w) ∷ s) = refuse WrongSign p
joint end n ((p, digits ds) ∷ s) = refuse WrongSign p

abbrev pub join : Joint → Ty → Ty → Ty
join Arrow A B = A ⇒ B
join Product A B = A ⊗ B

-- a reader of types, given how many type signs stand before: the type, and how many stand then
abbrev pub TypeReader : Type 0
TypeReader = ℕ → List Placed → Out (Ty × ℕ)

-- what follows the bracket of a type; `part` reads a part
abbrev pub joined : ℕ → TypeReader → TypeReader
joined end part n s =
    and_then (part n s) (λ a s₁.
    and_then (joint end a.1 s₁) (λ j s₂.
    and_then (part (suc a.1) s₂) (λ b s₃.
    and_then (expect end (is_mark 41) s₃) (λ _ s₄.
    got (join j a.0 b.0, b.1) s₄))))

-- a type by its first sign; `fits` says whether it may be nested so deep
abbrev pub type_by : ℕ → Bool → TypeReader → TypeReader
type_by end fits part n [] = refuse WrongSign end
type_by end fits part n ((p, mark b) ∷ s) = cond (b == 78) (limited (fits && nat_lt n 2048) p (got (N, suc n) s)) (cond (b == 40) (limited fits p (joined end part n s)) (refuse WrongSign p))
type_by end fits part n ((p, word w) ∷ s) = refuse WrongSign p
type_by end fits part n ((p, digits ds) ∷ s) = refuse WrongSign p

-- a type nested at most `levels` deep
unfoldable pub type : ℕ → ℕ → TypeReader
type end zero n s = type_by end false (λ m r. refuse WrongSign end) n s
type end (suc levels) n s = type_by end true (type end levels) n s

-- a reader of terms, given how many sub-terms and type signs stand before: the term, and how many stand then
abbrev pub TermReader : Type 0
TermReader = ℕ → ℕ → List Placed → Out (Tree Name × ℕ × ℕ)

-- x:T. after the backslash, and how many type signs stand then
abbrev pub function_head : ℕ → ℕ → List Placed → Out (Binder × Ty × ℕ)
function_head end m s =
    and_then (binder end s) (λ x s₁.
    and_then (expect end (is_mark 58) s₁) (λ _ s₂.
    and_then (type end 64 m s₂) (λ T s₃.
    and_then (expect end (is_mark 46) s₃) (λ _ s₄.
    got (x, T.0, T.1) s₄))))

-- <x,y> = after the word let
abbrev pub let_head : ℕ → List Placed → Out (Binder × Binder)
let_head end s =
    and_then (expect end (is_mark 60) s) (λ _ s₁.
    and_then (binder end s₁) (λ x s₂.
    and_then (expect end (is_mark 44) s₂) (λ _ s₃.
    and_then (binder end s₃) (λ y s₄.
    and_then (expect end (is_mark 62) s₄) (λ _ s₅.
    and_then (expect end (is_mark 61) s₅) (λ _ s₆.
    got (x, y) s₆))))))

-- what follows the first sign, at p, of each kind of term; `part` reads a part
abbrev pub successor : TermReader → ℕ → TermReader
successor part p n m s =
    and_then (part n m s) (λ t s₁.
    got (succ p t.0, t.1, t.2) s₁)

abbrev pub function : ℕ → TermReader → ℕ → TermReader
function end part p n m s =
    and_then (function_head end m s) (λ h s₁.
    and_then (part n h.2 s₁) (λ t s₂.
    got (lam p h.0 h.1 t.0, t.1, t.2) s₂))

abbrev pub application : ℕ → TermReader → ℕ → TermReader
application end part p n m s =
    and_then (part n m s) (λ t s₁.
    and_then (part t.1 t.2 s₁) (λ u s₂.
    and_then (expect end (is_mark 41) s₂) (λ _ s₃.
    got (app p t.0 u.0, u.1, u.2) s₃)))

abbrev pub couple : ℕ → TermReader → ℕ → TermReader
couple end part p n m s =
    and_then (part n m s) (λ t s₁.
    and_then (expect end (is_mark 44) s₁) (λ _ s₂.
    and_then (part t.1 t.2 s₂) (λ u s₃.
    and_then (expect end (is_mark 62) s₃) (λ _ s₄.
    got (pair p t.0 u.0, u.1, u.2) s₄))))

abbrev pub let_in : ℕ → TermReader → ℕ → TermReader
let_in end part p n m s =
    and_then (let_head end s) (λ h s₁.
    and_then (part n m s₁) (λ t s₂.
    and_then (expect end is_word_in s₂) (λ _ s₃.
    and_then (part t.1 t.2 s₃) (λ u s₄.
    got (split p h.0 h.1 t.0 u.0, u.1, u.2) s₄))))

abbrev pub iterator : TermReader → ℕ → TermReader
iterator part p n m s =
    and_then (part n m s) (λ t s₁.
    and_then (part t.1 t.2 s₁) (λ u s₂.
    and_then (part u.1 u.2 s₂) (λ v s₃.
    got (iter p t.0 u.0 v.0, v.1, v.2) s₃)))

-- a term by its first sign: can it stand, is a number small enough, is there room for one more sub-term?
abbrev pub term_from : ℕ → Bool → TermReader → ℕ → Sign → TermReader
term_from end room part p (word w) n m s =
    cond (is_let w) (limited room p (let_in end part p n m s))
    (cond (is_iter w) (limited room p (iterator part p n m s))
    (cond (is_name w) (limited room p (got (occ p w, n, m) s))
    (refuse WrongSign p)))
term_from end room part p (digits ds) n m s =
    cond (is_number ds) (cond (nat_le (number_of ds) 1000000000) (limited room p (got (num p (number_of ds), n, m) s)) (refuse LargeNumber p))
    (refuse WrongSign p)
term_from end room part p (mark b) n m s =
    cond (b == 83) (limited room p (successor part p n m s))
    (cond (b == 92) (limited room p (function end part p n m s))
    (cond (b == 40) (limited room p (application end part p n m s))
    (cond (b == 60) (limited room p (couple end part p n m s))
    (refuse WrongSign p))))

-- the sub-term is counted at its first sign; `fits` says whether it may be nested so deep
abbrev pub term_by : ℕ → Bool → TermReader → TermReader
term_by end fits part n m [] = refuse WrongSign end
term_by end fits part n m ((p, x) ∷ s) = term_from end (fits && nat_lt n 2048) part p x (suc n) m s

-- a term nested at most `levels` deep
unfoldable pub term : ℕ → ℕ → TermReader
term end zero n m s = term_by end false (λ k l r. refuse WrongSign end) n m s
term end (suc levels) n m s = term_by end true (term end levels) n m s

-- nothing may follow a whole program
abbrev pub last : Tree Name → List Placed → Out (Tree Name)
last t [] = got t []
last t ((p, x) ∷ s) = refuse WrongSign p

abbrev pub whole : ℕ → List Placed → Out (Tree Name)
whole end s = and_then (term end 128 0 0 s) (λ t r. last t.0 r)
