-- Reading as a machine that predicts by the next sign: a stack of what is still to come, from the left.
use Rattle.std.proofs.Common.{◌≡◌, ℕ, suc, Bool, true, false, cond, not, ◌&&◌, eqb, leb, List, [], ◌∷◌, ◌++◌, length, codes, sym, refl, ap, ◌∙◌, subst, append_assoc, append-nil, arith}
use mathlib.Core.Option.{Option, none, some}
use Rattle.std.proofs.lemmas.Bool.{eq-eqb, eqb-true, and_parts, not-true}
use Rattle.std.proofs.lemmas.Slice.Eq.{bytes_eq-Decides}
use Rattle.std.specs.Str.{bytes_eq}
use Rattle.calculus.specs.Types.{Ty, N, ◌⇒◌, ◌⊗◌}
use Rattle.syntax.specs.declared.signs.Joint.{Joint}
use Rattle.syntax.specs.declared.signs.Joint.TheVariants.{Arrow, Product}
use Rattle.syntax.specs.Trees.{Name, Binder, Tree, occ, num, succ, lam, app, pair, split, iter}
use Rattle.syntax.specs.Signs.{Sign, word, digits, mark, Placed, is_let, is_in, is_iter, is_name, is_number, number_of}
use Rattle.syntax.specs.Grammar.{Next, Binds, StandsType, Stands}
use Rattle.syntax.specs.Parse.{is_mark, is_word_in, join}
use Rattle.grammar.specs.Roles.{Role, begins, number, base, bracket, connective, plain, type_roles, roles}

-- what may be to come: a term or a type so deep, a binder, > or *, the word in, and a mark
pub data Item : Type 0 where
  a_term : ℕ → Item
  a_type : ℕ → Item
  a_binder : Item
  a_joint : Item
  an_in : Item
  only : ℕ → Item

abbrev pub Val : Item → Type 0
Val (a_term d) = Tree Name
Val (a_type d) = Ty
Val a_binder = Binder
Val a_joint = Joint
Val an_in = Unit {0}
Val (only m) = Unit {0}

abbrev pub Vals : List Item → Type 0
Vals [] = Unit {0}
Vals (i ∷ K) = Val i × Vals K

abbrev pub mark_of : Joint → ℕ
mark_of Arrow = 62
mark_of Product = 42

abbrev pub ItemStands : (i : Item) → Val i → List Placed → List Placed → Type 0
ItemStands (a_term d) t = Stands t
ItemStands (a_type d) T = StandsType T
ItemStands a_binder x = Binds x
ItemStands a_joint j = Next (mark (mark_of j))
ItemStands an_in v = Next (word (codes "in"))
ItemStands (only m) v = Next (mark m)

-- the signs spell the whole stack
abbrev pub Fills : (K : List Item) → Vals K → List Placed → Type 0
Fills [] vs s = s ≡ []
Fills (i ∷ K) vs s = (m : List Placed) × ItemStands i vs.0 s m × Fills K vs.1 m

abbrev pub item_roles : (i : Item) → Val i → List Role
item_roles (a_term d) t = roles d t
item_roles (a_type d) T = type_roles d T
item_roles a_binder x = plain ∷ []
item_roles a_joint j = connective ∷ []
item_roles an_in v = plain ∷ []
item_roles (only m) v = plain ∷ []

abbrev pub all_roles : (K : List Item) → Vals K → List Role
all_roles [] vs = []
all_roles (i ∷ K) vs = item_roles i vs.0 ++ all_roles K vs.1

-- items spelled one after another
abbrev pub Sequence : (J : List Item) → Vals J → List Placed → List Placed → Type 0
Sequence [] vs s r = s ≡ r
Sequence (i ∷ []) vs s r = ItemStands i vs.0 s r
Sequence (i ∷ j ∷ J) vs s r = (m : List Placed) × ItemStands i vs.0 s m × Sequence (j ∷ J) vs.1 m r

-- one sign taken: its role, what is to come of the item after it, and the item's value by theirs and by the sign's place
pub record Move (V : Type 0) : Type 0 where
  pub role : Role
  pub rest : List Item
  pub value : ℕ → Vals rest → V

-- the item's only sign
abbrev pub alone : {V : Type 0} → Role → (ℕ → V) → Move V
alone ρ v = record { role = ρ; rest = []; value = λ p w. v p }

abbrev pub succ_move : ℕ → Move (Tree Name)
succ_move d = record { role = begins d; rest = a_term (suc d) ∷ []; value = λ p w. succ p w.0 }

abbrev pub lam_move : ℕ → Move (Tree Name)
lam_move d = record { role = begins d; rest = a_binder ∷ only 58 ∷ a_type 1 ∷ only 46 ∷ a_term (suc d) ∷ []; value = λ p w. lam p w.0 w.1.1.0 w.1.1.1.1.0 }

abbrev pub app_move : ℕ → Move (Tree Name)
app_move d = record { role = begins d; rest = a_term (suc d) ∷ a_term (suc d) ∷ only 41 ∷ []; value = λ p w. app p w.0 w.1.0 }

abbrev pub pair_move : ℕ → Move (Tree Name)
pair_move d = record { role = begins d; rest = a_term (suc d) ∷ only 44 ∷ a_term (suc d) ∷ only 62 ∷ []; value = λ p w. pair p w.0 w.1.1.0 }

abbrev pub let_move : ℕ → Move (Tree Name)
let_move d = record {
  role = begins d;
  rest = only 60 ∷ a_binder ∷ only 44 ∷ a_binder ∷ only 62 ∷ only 61 ∷ a_term (suc d) ∷ an_in ∷ a_term (suc d) ∷ [];
  value = λ p w. split p w.1.0 w.1.1.1.0 w.1.1.1.1.1.1.0 w.1.1.1.1.1.1.1.1.0;
}

abbrev pub iter_move : ℕ → Move (Tree Name)
iter_move d = record { role = begins d; rest = a_term (suc d) ∷ a_term (suc d) ∷ a_term (suc d) ∷ []; value = λ p w. iter p w.0 w.1.0 w.1.1.0 }

abbrev pub bracket_move : ℕ → Move Ty
bracket_move d = record { role = bracket d; rest = a_type (suc d) ∷ a_joint ∷ a_type (suc d) ∷ only 41 ∷ []; value = λ p w. join w.1.0 w.0 w.1.1.0 }

abbrev pub next : (i : Item) → Sign → Option (Move (Val i))
next (a_term d) (word w) = cond (is_let w) (some (let_move d)) (cond (is_iter w) (some (iter_move d)) (cond (is_name w) (some (alone (begins d) (λ p. occ p w))) none))
next (a_term d) (digits ds) = cond (is_number ds) (some (alone (number d (number_of ds)) (λ p. num p (number_of ds)))) none
next (a_term d) (mark b) = cond (eqb b 83) (some (succ_move d)) (cond (eqb b 92) (some (lam_move d)) (cond (eqb b 40) (some (app_move d)) (cond (eqb b 60) (some (pair_move d)) none)))
next (a_type d) (word w) = none
next (a_type d) (digits ds) = none
next (a_type d) (mark b) = cond (eqb b 78) (some (alone (base d) (λ p. N))) (cond (eqb b 40) (some (bracket_move d)) none)
next a_binder (word w) = cond (is_name w) (some (alone plain (λ p. record { place = p; name = w }))) none
next a_binder (digits ds) = none
next a_binder (mark b) = none
next a_joint (word w) = none
next a_joint (digits ds) = none
next a_joint (mark b) = cond (eqb b 62) (some (alone connective (λ p. Arrow))) (cond (eqb b 42) (some (alone connective (λ p. Product))) none)
next an_in x = cond (is_word_in x) (some (alone plain (λ p. tt))) none
next (only m) x = cond (is_mark m x) (some (alone plain (λ p. tt))) none

-- a run of letters that is a word
same_is : (v w : List ℕ) → bytes_eq v w ≡ true → v ≡ w
same_is v w h = (bytes_eq-Decides v w).0 h

no_word : (w : List ℕ) → is_name w ≡ true → (is_let w ≡ false) × (is_iter w ≡ false)
no_word w h =
    let a = and_parts (leb (length w) 16) (not (is_let w) && (not (is_in w) && not (is_iter w))) h in
    let b = and_parts (not (is_let w)) (not (is_in w) && not (is_iter w)) a.1 in
    let c = and_parts (not (is_in w)) (not (is_iter w)) b.1 in
    (not-true (is_let w) b.0, not-true (is_iter w) c.1)

-- a sign that is predicted
is_mark_lem : (m : ℕ) (x : Sign) → is_mark m x ≡ true → x ≡ mark m
is_mark_lem m (word w) h = let z : ◌≡◌ {A = ℕ} 0 1 = cc in absurd (omega arith)
is_mark_lem m (digits ds) h = let z : ◌≡◌ {A = ℕ} 0 1 = cc in absurd (omega arith)
is_mark_lem m (mark b) h = ap mark (eqb-true b m h)

is_in_lem : (x : Sign) → is_word_in x ≡ true → x ≡ word (codes "in")
is_in_lem (word w) h = ap word (same_is w (codes "in") h)
is_in_lem (digits ds) h = let z : ◌≡◌ {A = ℕ} 0 1 = cc in absurd (omega arith)
is_in_lem (mark b) h = let z : ◌≡◌ {A = ℕ} 0 1 = cc in absurd (omega arith)

-- a move taken back: what is spelled after its sign makes the item, and the roles are the item's
record Up (i : Item) (x : Sign) (μ : Move (Val i)) : Type 0 where
  pub stands : (p : ℕ) (v : Vals μ.rest) (s r : List Placed) → Sequence μ.rest v s r → ItemStands i (μ.value p v) ((p, x) ∷ s) r
  pub sorts : (p : ℕ) (v : Vals μ.rest) → item_roles i (μ.value p v) ≡ μ.role ∷ all_roles μ.rest v

abbrev Holds : {V : Type 0} → (Move V → Type 0) → Option (Move V) → Type 0
Holds P none = Unit {0}
Holds P (some μ) = P μ

either : {V : Type 0} (P : Move V → Type 0) (b : Bool) (μ : Move V) (o : Option (Move V)) → (b ≡ true → P μ) → Holds P o → Holds P (cond b (some μ) o)
either P true μ o f h = f refl
either P false μ o f h = h

-- the sign that the test found
sign_is : (p : ℕ) (x y : Sign) (s : List Placed) → x ≡ y → (p, x) ∷ s ≡ (p, y) ∷ s
sign_is p x y s e = ap (λ z. (p, z) ∷ s) e

up_bracket : (j : Joint) (d : ℕ) (b p : ℕ) (A B : Ty) (s r : List Placed) → eqb b 40 ≡ true → Sequence (a_type (suc d) ∷ a_joint ∷ a_type (suc d) ∷ only 41 ∷ []) (A, (j, (B, (tt, tt)))) s r → StandsType (join j A B) ((p, mark b) ∷ s) r
up_bracket Arrow d b p A B s r e h = (s, (p, sign_is p (mark b) (mark 40) s (ap mark (eqb-true b 40 e))), h)
up_bracket Product d b p A B s r e h = (s, (p, sign_is p (mark b) (mark 40) s (ap mark (eqb-true b 40 e))), h)

sorts_bracket : (j : Joint) (d : ℕ) (A B : Ty) → type_roles d (join j A B) ≡ bracket d ∷ (type_roles (suc d) A ++ (connective ∷ (type_roles (suc d) B ++ (plain ∷ []))))
sorts_bracket Arrow d A B = refl
sorts_bracket Product d A B = refl

ups : (i : Item) (x : Sign) → Holds (Up i x) (next i x)
ups (a_term d) (word w) =
    either (Up (a_term d) (word w)) (is_let w) (let_move d) _ (λ e. record { stands = λ p v s r h. (s, sign_is p (word w) (word (codes "let")) s (ap word (same_is w (codes "let") e)), h); sorts = λ p v. simp append-nil })
    (either (Up (a_term d) (word w)) (is_iter w) (iter_move d) _ (λ e. record { stands = λ p v s r h. (s, sign_is p (word w) (word (codes "iter")) s (ap word (same_is w (codes "iter") e)), h); sorts = λ p v. simp append-nil })
    (either (Up (a_term d) (word w)) (is_name w) _ none (λ e. record { stands = λ p v s r h. (e, ap (λ z. (p, word w) ∷ z) h); sorts = λ p v. refl }) tt))
ups (a_term d) (digits ds) =
    either (Up (a_term d) (digits ds)) (is_number ds) _ none (λ e. record { stands = λ p v s r h. (ds, e, refl, ap (λ z. (p, digits ds) ∷ z) h); sorts = λ p v. refl }) tt
ups (a_term d) (mark b) =
    either (Up (a_term d) (mark b)) (eqb b 83) (succ_move d) _ (λ e. record { stands = λ p v s r h. (s, sign_is p (mark b) (mark 83) s (ap mark (eqb-true b 83 e)), h); sorts = λ p v. simp append-nil })
    (either (Up (a_term d) (mark b)) (eqb b 92) (lam_move d) _ (λ e. record { stands = λ p v s r h. (s, sign_is p (mark b) (mark 92) s (ap mark (eqb-true b 92 e)), h); sorts = λ p v. simp append-nil })
    (either (Up (a_term d) (mark b)) (eqb b 40) (app_move d) _ (λ e. record { stands = λ p v s r h. (s, sign_is p (mark b) (mark 40) s (ap mark (eqb-true b 40 e)), h); sorts = λ p v. refl })
    (either (Up (a_term d) (mark b)) (eqb b 60) (pair_move d) none (λ e. record { stands = λ p v s r h. (s, sign_is p (mark b) (mark 60) s (ap mark (eqb-true b 60 e)), h); sorts = λ p v. refl }) tt)))
ups (a_type d) (word w) = tt
ups (a_type d) (digits ds) = tt
ups (a_type d) (mark b) =
    either (Up (a_type d) (mark b)) (eqb b 78) _ _ (λ e. record { stands = λ p v s r h. (p, sign_is p (mark b) (mark 78) s (ap mark (eqb-true b 78 e)) ∙ ap (λ z. (p, mark 78) ∷ z) h); sorts = λ p v. refl })
    (either (Up (a_type d) (mark b)) (eqb b 40) (bracket_move d) none (λ e. record { stands = λ p v s r h. up_bracket v.1.0 d b p v.0 v.1.1.0 s r e h; sorts = λ p v. sorts_bracket v.1.0 d v.0 v.1.1.0 }) tt)
ups a_binder (word w) = either (Up a_binder (word w)) (is_name w) _ none (λ e. record { stands = λ p v s r h. (e, ap (λ z. (p, word w) ∷ z) h); sorts = λ p v. refl }) tt
ups a_binder (digits ds) = tt
ups a_binder (mark b) = tt
ups a_joint (word w) = tt
ups a_joint (digits ds) = tt
ups a_joint (mark b) =
    either (Up a_joint (mark b)) (eqb b 62) _ _ (λ e. record { stands = λ p v s r h. (p, sign_is p (mark b) (mark 62) s (ap mark (eqb-true b 62 e)) ∙ ap (λ z. (p, mark 62) ∷ z) h); sorts = λ p v. refl })
    (either (Up a_joint (mark b)) (eqb b 42) _ none (λ e. record { stands = λ p v s r h. (p, sign_is p (mark b) (mark 42) s (ap mark (eqb-true b 42 e)) ∙ ap (λ z. (p, mark 42) ∷ z) h); sorts = λ p v. refl }) tt)
ups an_in x = either (Up an_in x) (is_word_in x) _ none (λ e. record { stands = λ p v s r h. (p, sign_is p x (word (codes "in")) s (is_in_lem x e) ∙ ap (λ z. (p, word (codes "in")) ∷ z) h); sorts = λ p v. refl }) tt
ups (only m) x = either (Up (only m) x) (is_mark m x) _ none (λ e. record { stands = λ p v s r h. (p, sign_is p x (mark m) s (is_mark_lem m x e) ∙ ap (λ z. (p, mark m) ∷ z) h); sorts = λ p v. refl }) tt

-- an item that is spelled begins with a sign that is predicted
record Down (i : Item) (v : Val i) (s r : List Placed) : Type 0 where
  pub place : ℕ
  pub sign : Sign
  pub left : List Placed
  pub is : s ≡ (place, sign) ∷ left
  pub move : Move (Val i)
  pub predicted : next i sign ≡ some move
  pub parts : Vals move.rest
  pub stands : Sequence move.rest parts left r
  pub makes : move.value place parts ≡ v

third : {A : Type 0} (a b c : Bool) (x y z w : A) → a ≡ false → b ≡ false → c ≡ true → cond a x (cond b y (cond c z w)) ≡ z
third a b c x y z w e f g = rw (e, f, g) refl

downs_tree : (d : ℕ) (t : Tree Name) (s r : List Placed) → Stands t s r → Down (a_term d) t s r
downs_tree d (occ p w) s r h = let n = no_word w h.0 in record { place = p; sign = word w; left = r; is = h.1; move = alone (begins d) (λ q. occ q w); predicted = third (is_let w) (is_iter w) (is_name w) _ _ _ none n.0 n.1 h.0; parts = tt; stands = refl; makes = refl }
downs_tree d (num p n) s r h = record { place = p; sign = digits h.0; left = r; is = h.3; move = alone (number d (number_of h.0)) (λ q. num q (number_of h.0)); predicted = rw h.1 refl; parts = tt; stands = refl; makes = ap (num p) h.2 }
downs_tree d (succ p t) s r h = record { place = p; sign = mark 83; left = h.0; is = h.1; move = succ_move d; predicted = refl; parts = (t, tt); stands = h.2; makes = refl }
downs_tree d (lam p x T t) s r h = record { place = p; sign = mark 92; left = h.0; is = h.1; move = lam_move d; predicted = refl; parts = (x, (tt, (T, (tt, (t, tt))))); stands = h.2; makes = refl }
downs_tree d (app p t u) s r h = record { place = p; sign = mark 40; left = h.0; is = h.1; move = app_move d; predicted = refl; parts = (t, (u, (tt, tt))); stands = h.2; makes = refl }
downs_tree d (pair p t u) s r h = record { place = p; sign = mark 60; left = h.0; is = h.1; move = pair_move d; predicted = refl; parts = (t, (tt, (u, (tt, tt)))); stands = h.2; makes = refl }
downs_tree d (split p x y t u) s r h = record { place = p; sign = word (codes "let"); left = h.0; is = h.1; move = let_move d; predicted = refl; parts = (tt, (x, (tt, (y, (tt, (tt, (t, (tt, (u, tt))))))))); stands = h.2; makes = refl }
downs_tree d (iter p t u v) s r h = record { place = p; sign = word (codes "iter"); left = h.0; is = h.1; move = iter_move d; predicted = refl; parts = (t, (u, (v, tt))); stands = h.2; makes = refl }

downs_type : (d : ℕ) (T : Ty) (s r : List Placed) → StandsType T s r → Down (a_type d) T s r
downs_type d N s r h = record { place = h.0; sign = mark 78; left = r; is = h.1; move = alone (base d) (λ p. N); predicted = refl; parts = tt; stands = refl; makes = refl }
downs_type d (A ⇒ B) s r h = record { place = h.1.0; sign = mark 40; left = h.0; is = h.1.1; move = bracket_move d; predicted = refl; parts = (A, (Arrow, (B, (tt, tt)))); stands = h.2; makes = refl }
downs_type d (A ⊗ B) s r h = record { place = h.1.0; sign = mark 40; left = h.0; is = h.1.1; move = bracket_move d; predicted = refl; parts = (A, (Product, (B, (tt, tt)))); stands = h.2; makes = refl }

downs_joint : (j : Joint) (s r : List Placed) → Next (mark (mark_of j)) s r → Down a_joint j s r
downs_joint Arrow s r h = record { place = h.0; sign = mark 62; left = r; is = h.1; move = alone connective (λ p. Arrow); predicted = refl; parts = tt; stands = refl; makes = refl }
downs_joint Product s r h = record { place = h.0; sign = mark 42; left = r; is = h.1; move = alone connective (λ p. Product); predicted = refl; parts = tt; stands = refl; makes = refl }

downs : (i : Item) (v : Val i) (s r : List Placed) → ItemStands i v s r → Down i v s r
downs (a_term d) t s r h = downs_tree d t s r h
downs (a_type d) T s r h = downs_type d T s r h
downs a_binder x s r h = record { place = x.place; sign = word x.name; left = r; is = h.1; move = alone plain (λ p. record { place = p; name = x.name }); predicted = rw h.0 refl; parts = tt; stands = refl; makes = refl }
downs a_joint j s r h = downs_joint j s r h
downs an_in v s r h = record { place = h.0; sign = word (codes "in"); left = r; is = h.1; move = alone plain (λ p. tt); predicted = refl; parts = tt; stands = refl; makes = refl }
downs (only m) v s r h = record { place = h.0; sign = mark m; left = r; is = h.1; move = alone plain (λ p. tt); predicted = rw (eq-eqb m m refl) refl; parts = tt; stands = refl; makes = refl }

-- the values of the first items, and of the others
abbrev fronts : (J K : List Item) → Vals (J ++ K) → Vals J
fronts [] K w = tt
fronts (i ∷ J) K w = (w.0, fronts J K w.1)

abbrev backs : (J K : List Item) → Vals (J ++ K) → Vals K
backs [] K w = w
backs (i ∷ J) K w = backs J K w.1

abbrev joined : (J K : List Item) → Vals J → Vals K → Vals (J ++ K)
joined [] K v w = w
joined (i ∷ J) K v w = (v.0, joined J K v.1 w)

fills_apart : (J K : List Item) (w : Vals (J ++ K)) (s : List Placed) → Fills (J ++ K) w s → (m : List Placed) × Sequence J (fronts J K w) s m × Fills K (backs J K w) m
fills_apart [] K w s f = (s, refl, f)
fills_apart (i ∷ []) K w s f = f
fills_apart (i ∷ j ∷ J) K w s f = let r = fills_apart (j ∷ J) K w.1 f.0 f.2 in (r.0, (f.0, f.1, r.1), r.2)

fills_both : (J K : List Item) (v : Vals J) (w : Vals K) (s m : List Placed) → Sequence J v s m → Fills K w m → Fills (J ++ K) (joined J K v w) s
fills_both [] K v w s m h f = subst (Fills K w) (sym h) f
fills_both (i ∷ []) K v w s m h f = (m, h, f)
fills_both (i ∷ j ∷ J) K v w s m h f = (h.0, h.1, fills_both (j ∷ J) K v.1 w h.0 m h.2 f)

fronts_joined : (J K : List Item) (v : Vals J) (w : Vals K) → fronts J K (joined J K v w) ≡ v
fronts_joined [] K v w = refl
fronts_joined (i ∷ J) K v w = ap (λ z. (v.0, z)) (fronts_joined J K v.1 w)

backs_joined : (J K : List Item) (v : Vals J) (w : Vals K) → backs J K (joined J K v w) ≡ w
backs_joined [] K v w = refl
backs_joined (i ∷ J) K v w = backs_joined J K v.1 w

roles_apart : (J K : List Item) (w : Vals (J ++ K)) → all_roles (J ++ K) w ≡ all_roles J (fronts J K w) ++ all_roles K (backs J K w)
roles_apart [] K w = refl
roles_apart (i ∷ J) K w = ap (λ z. item_roles i w.0 ++ z) (roles_apart J K w.1) ∙ sym (append_assoc (item_roles i w.0) (all_roles J (fronts J K w.1)) (all_roles K (backs J K w.1)))

-- the values of a stack before a move, by those after it
abbrev pub make : {V : Type 0} (μ : Move V) → ℕ → (K : List Item) → Vals (μ.rest ++ K) → V × Vals K
make μ p K w = (μ.value p (fronts μ.rest K w), backs μ.rest K w)

-- a whole stack, a move taken back
pub record Back (i : Item) (x : Sign) (μ : Move (Val i)) : Type 0 where
  pub fills : (p : ℕ) (K : List Item) (w : Vals (μ.rest ++ K)) (s : List Placed) → Fills (μ.rest ++ K) w s → Fills (i ∷ K) (make μ p K w) ((p, x) ∷ s)
  pub sorts : (p : ℕ) (K : List Item) (w : Vals (μ.rest ++ K)) → all_roles (i ∷ K) (make μ p K w) ≡ μ.role ∷ all_roles (μ.rest ++ K) w

back : (i : Item) (x : Sign) (μ : Move (Val i)) → Up i x μ → Back i x μ
back i x μ u = record {
  fills = λ p K w s f. let a = fills_apart μ.rest K w s f in (a.0, u.stands p (fronts μ.rest K w) s a.0 a.1, a.2);
  sorts = λ p K w. ap (λ z. z ++ all_roles K (backs μ.rest K w)) (u.sorts p (fronts μ.rest K w)) ∙ ap (λ z. μ.role ∷ z) (sym (roles_apart μ.rest K w));
}

pub backwards : (i : Item) (x : Sign) (μ : Move (Val i)) → next i x ≡ some μ → Back i x μ
backwards i x μ e = back i x μ (subst (Holds (Up i x)) e (ups i x))

-- a whole stack, a move taken
pub record Ahead (i : Item) (K : List Item) (vs : Vals (i ∷ K)) (p : ℕ) (x : Sign) (s : List Placed) : Type 0 where
  pub move : Move (Val i)
  pub predicted : next i x ≡ some move
  pub values : Vals (move.rest ++ K)
  pub fills : Fills (move.rest ++ K) values s
  pub makes : make move p K values ≡ vs

ahead_down : (i : Item) (K : List Item) (vs : Vals (i ∷ K)) (s r : List Placed) → Fills K vs.1 r → (d : Down i vs.0 s r) → Ahead i K vs d.place d.sign d.left
ahead_down i K vs s r f d =
    let J = d.move.rest in
    let w = joined J K d.parts vs.1 in
    record {
      move = d.move;
      predicted = d.predicted;
      values = w;
      fills = fills_both J K d.parts vs.1 d.left r d.stands f;
      makes = ap (λ z. (d.move.value d.place z, backs J K w)) (fronts_joined J K d.parts vs.1) ∙ ap (λ z. (d.move.value d.place d.parts, z)) (backs_joined J K d.parts vs.1) ∙ ap (λ z. (z, vs.1)) d.makes;
    }

pub forwards : (i : Item) (K : List Item) (vs : Vals (i ∷ K)) (p : ℕ) (x : Sign) (s : List Placed) → Fills (i ∷ K) vs ((p, x) ∷ s) → Ahead i K vs p x s
forwards i K vs p x s f =
    let d = downs i vs.0 ((p, x) ∷ s) f.0 f.1 in
    let h : ◌≡◌ {A = Placed} (p, x) (d.place, d.sign) = cc d.is in
    let l : s ≡ d.left = cc d.is in
    let a = ahead_down i K vs ((p, x) ∷ s) f.0 f.2 d in
    subst (λ z. Ahead i K vs z.0 z.1 s) (sym h) (subst (λ z. Ahead i K vs d.place d.sign z) (sym l) a)

pub not_empty : (i : Item) (K : List Item) (vs : Vals (i ∷ K)) → Fills (i ∷ K) vs [] → ⊥
not_empty i K vs f = let d = downs i vs.0 [] f.0 f.1 in let z : ◌≡◌ {A = ℕ} 0 1 = cc d.is in omega arith

-- every stack is spelled in some way
fill_item : (i : Item) (r : List Placed) → (v : Val i) × (s : List Placed) × ItemStands i v s r
fill_item (a_term d) r = (num 0 0, (0, digits (48 ∷ [])) ∷ r, (48 ∷ [], refl, refl, refl))
fill_item (a_type d) r = (N, (0, mark 78) ∷ r, (0, refl))
fill_item a_binder r = (record { place = 0; name = 97 ∷ [] }, (0, word (97 ∷ [])) ∷ r, (refl, refl))
fill_item a_joint r = (Arrow, (0, mark 62) ∷ r, (0, refl))
fill_item an_in r = (tt, (0, word (codes "in")) ∷ r, (0, refl))
fill_item (only m) r = (tt, (0, mark m) ∷ r, (0, refl))

pub fillable : (K : List Item) → (s : List Placed) × (vs : Vals K) × Fills K vs s
fillable [] = ([], tt, refl)
fillable (i ∷ K) = let r = fillable K in let f = fill_item i r.0 in (f.1, (f.0, r.1), (r.0, f.2, r.2))
