-- The first fault of names met while reading is the first of all faults of names.
use Rattle.std.proofs.Common.{◌≡◌, ℕ, suc, ◌+◌, ◌*◌, ◌≤◌, min, Bool, true, false, cond, ◌||◌, eqb, ltb, List, [], ◌∷◌, ◌++◌, map, length, get_or, take, drop, set, Some, None, Option, sym, refl, ap, ◌∙◌, subst, append_assoc, append-nil, arith}
use mathlib.Core.Path.{fun_ext}
use Rattle.std.specs.Str.{bytes_eq}
use Rattle.std.proofs.lemmas.Slice.Eq.{bytes_eq-Decides}
use Rattle.std.proofs.lemmas.List.{map-append}
use Rattle.std.proofs.lemmas.Bool.Decides.{nat_tests, same_from_decides}
use Rattle.calculus.specs.Types.{Ty}
use Rattle.syntax.specs.declared.refusal.Fault.{Fault}
use Rattle.syntax.specs.declared.refusal.Fault.TheVariants.{TooLong, WrongSign, LargeNumber, PassedLimit, Unbound, BoundTwice, UsedTwice, Unused, IllTyped, NoNumber, HighType, FewCells, ManyIterators}
use Rattle.syntax.specs.declared.refusal.Refusal.{Refusal}
use Rattle.syntax.specs.Trees.{Name, Binder, Tree, occ, num, succ, lam, app, pair, split, iter}
use Rattle.syntax.specs.Names.{among, fault, unbound, binders, bound_twice, occurrences, used_once, misused, name_faults, number, before, sooner, least, name_fault}
use Rattle.syntax.specs.Scopes.{InForce, Names, no_names, note, declare, enter, unused, found, nobody, use_at, occur, visit}

-- a refusal as one number, by place and then by the fault's number
abbrev key : Refusal → ℕ
key f = f.place * 16 + number f.fault

abbrev numbered : ℕ → Fault
numbered n = cond (eqb n 1) TooLong (cond (eqb n 2) WrongSign (cond (eqb n 3) LargeNumber (cond (eqb n 4) PassedLimit (cond (eqb n 5) Unbound (cond (eqb n 6) BoundTwice (cond (eqb n 7) UsedTwice (cond (eqb n 8) Unused (cond (eqb n 9) IllTyped (cond (eqb n 10) NoNumber (cond (eqb n 11) HighType (cond (eqb n 12) FewCells ManyIterators)))))))))))

numbered-back : (f : Fault) → numbered (number f) ≡ f
numbered-back TooLong = refl
numbered-back WrongSign = refl
numbered-back LargeNumber = refl
numbered-back PassedLimit = refl
numbered-back Unbound = refl
numbered-back BoundTwice = refl
numbered-back UsedTwice = refl
numbered-back Unused = refl
numbered-back IllTyped = refl
numbered-back NoNumber = refl
numbered-back HighType = refl
numbered-back FewCells = refl
numbered-back ManyIterators = refl

number_small : (f : Fault) → number f ≤ 13
number_small TooLong = omega arith
number_small WrongSign = omega arith
number_small LargeNumber = omega arith
number_small PassedLimit = omega arith
number_small Unbound = omega arith
number_small BoundTwice = omega arith
number_small UsedTwice = omega arith
number_small Unused = omega arith
number_small IllTyped = omega arith
number_small NoNumber = omega arith
number_small HighType = omega arith
number_small FewCells = omega arith
number_small ManyIterators = omega arith

key_same : (f g : Refusal) → key f ≡ key g → f ≡ g
key_same f g e =
    let a = number_small f.fault in
    let b = number_small g.fault in
    let p : f.place ≡ g.place = omega arith in
    let n : number f.fault ≡ number g.fault = omega arith in
    let q : f.fault ≡ g.fault = sym (numbered-back f.fault) ∙ ap numbered n ∙ numbered-back g.fault in
    λ i. record { fault = q i; place = p i }

before_key : (f g : Refusal) → before f g ≡ ltb (key f) (key g)
before_key f g =
    let a = number_small f.fault in
    let b = number_small g.fault in
    grind (arith, nat_tests)

abbrev pick : Refusal → Refusal → Refusal
pick f g = cond (before f g) f g

pick_key : (f g : Refusal) → key (pick f g) ≡ min (key f) (key g)
pick_key f g = go (before f g) refl
  where
    go : (v : Bool) → before f g ≡ v → key (cond (before f g) f g) ≡ min (key f) (key g)
    go true e = let h : ltb (key f) (key g) ≡ true = sym (before_key f g) ∙ e in rw e (grind (arith, nat_tests))
    go false e = let h : ltb (key f) (key g) ≡ false = sym (before_key f g) ∙ e in rw e (grind (arith, nat_tests))

-- the order in which faults are met makes no difference
swap : (f g : Refusal) (o : Option Refusal) → sooner f (sooner g o) ≡ sooner g (sooner f o)
swap f g None = ap Some (key_same (pick f g) (pick g f) (omega (arith, pick_key f g, pick_key g f)))
swap f g (Some h) = ap Some (key_same (pick f (pick g h)) (pick g (pick f h)) (omega (arith, pick_key f (pick g h), pick_key g h, pick_key g (pick f h), pick_key f h)))

abbrev add_all : List Refusal → Option Refusal → Option Refusal
add_all [] o = o
add_all (f ∷ fs) o = sooner f (add_all fs o)

least_is : (fs : List Refusal) → least fs ≡ add_all fs None
least_is [] = refl
least_is (f ∷ fs) = ap (sooner f) (least_is fs)

add_append : (xs ys : List Refusal) (o : Option Refusal) → add_all (xs ++ ys) o ≡ add_all xs (add_all ys o)
add_append [] ys o = refl
add_append (x ∷ xs) ys o = ap (sooner x) (add_append xs ys o)

add-one : (ys : List Refusal) (f : Refusal) (o : Option Refusal) → sooner f (add_all ys o) ≡ add_all ys (sooner f o)
add-one [] f o = refl
add-one (y ∷ ys) f o = swap f y (add_all ys o) ∙ ap (sooner y) (add-one ys f o)

add_swap : (xs ys : List Refusal) (o : Option Refusal) → add_all xs (add_all ys o) ≡ add_all ys (add_all xs o)
add_swap [] ys o = refl
add_swap (x ∷ xs) ys o = ap (sooner x) (add_swap xs ys o) ∙ add-one ys x (add_all xs o)

-- many lists of faults, one after another
abbrev add_each : List (List Refusal) → Option Refusal → Option Refusal
add_each [] o = o
add_each (x ∷ xs) o = add_all x (add_each xs o)

-- one of them may be added first
move : (pre : List (List Refusal)) (x : List Refusal) (post : List (List Refusal)) (o : Option Refusal) → add_each (pre ++ (x ∷ post)) o ≡ add_all x (add_each (pre ++ post) o)
move [] x post o = refl
move (p ∷ pre) x post o = ap (add_all p) (move pre x post o) ∙ add_swap p x (add_each (pre ++ post) o)

-- names
same_sym : (a b : Name) → bytes_eq a b ≡ bytes_eq b a
same_sym a b = let d = bytes_eq-Decides a b in same_from_decides (bytes_eq a b) (bytes_eq b a) ((λ t. sym (d.0 t), λ e. d.1 (sym e))) (bytes_eq-Decides b a)

same_is : (a b : Name) → bytes_eq a b ≡ true → a ≡ b
same_is a b e = (bytes_eq-Decides a b).0 e

or_assoc : (a b c : Bool) → ((a || b) || c) ≡ (a || (b || c))
or_assoc true b c = refl
or_assoc false b c = refl

or_comm : (a b : Bool) → (a || b) ≡ (b || a)
or_comm true true = refl
or_comm true false = refl
or_comm false true = refl
or_comm false false = refl

or_false : (a : Bool) → (a || false) ≡ a
or_false true = refl
or_false false = refl

among-append : (w : Name) (xs ys : List Name) → among w (xs ++ ys) ≡ (among w xs || among w ys)
among-append w [] ys = refl
among-append w (x ∷ xs) ys = ap (λ b. bytes_eq w x || b) (among-append w xs ys) ∙ sym (or_assoc (bytes_eq w x) (among w xs) (among w ys))

-- a name at the end is as good as one at the front
among-last : (w : Name) (xs : List Name) (x : Name) → among w (xs ++ (x ∷ [])) ≡ among w (x ∷ xs)
among-last w xs x = among-append w xs (x ∷ []) ∙ ap (λ b. among w xs || b) (or_false (bytes_eq w x)) ∙ or_comm (among w xs) (bytes_eq w x)

unbound-same : (t : Tree Name) (σ τ : List Name) → ((w : Name) → among w σ ≡ among w τ) → unbound σ t ≡ unbound τ t
unbound-same (occ p w) σ τ h = ap (λ b. cond b [] (fault Unbound p ∷ [])) (h w)
unbound-same (num p n) σ τ h = refl
unbound-same (succ p t) σ τ h = unbound-same t σ τ h
unbound-same (lam p x T t) σ τ h = unbound-same t (x.name ∷ σ) (x.name ∷ τ) (λ w. ap (λ b. bytes_eq w x.name || b) (h w))
unbound-same (app p t u) σ τ h = let a = unbound-same t σ τ h in let b = unbound-same u σ τ h in cc
unbound-same (pair p t u) σ τ h = let a = unbound-same t σ τ h in let b = unbound-same u σ τ h in cc
unbound-same (split p x y t u) σ τ h = let a = unbound-same t σ τ h in let b = unbound-same u (x.name ∷ y.name ∷ σ) (x.name ∷ y.name ∷ τ) (λ w. ap (λ b. bytes_eq w x.name || (bytes_eq w y.name || b)) (h w)) in cc
unbound-same (iter p t u v) σ τ h = let a = unbound-same t σ τ h in let b = unbound-same u σ τ h in let c = unbound-same v σ τ h in cc

twice_same : (xs : List Binder) (a b : List Name) → ((w : Name) → among w a ≡ among w b) → bound_twice a xs ≡ bound_twice b xs
twice_same [] a b h = refl
twice_same (x ∷ xs) a b h =
    let e = twice_same xs (x.name ∷ a) (x.name ∷ b) (λ w. ap (λ v. bytes_eq w x.name || v) (h w)) in
    let k = h x.name in
    cc

abbrev names_of : List Binder → List Name
names_of xs = map (λ x. x.name) xs

-- was this one bound before?
abbrev again : Binder → List Name → List Refusal
again x b = cond (among x.name b) (fault BoundTwice x.place ∷ []) []

twice_first : (x : Binder) (xs : List Binder) (b : List Name) → bound_twice b (x ∷ xs) ≡ again x b ++ bound_twice (b ++ (x.name ∷ [])) xs
twice_first x xs b = ap (λ r. cond (among x.name b) (fault BoundTwice x.place ∷ r) r) (twice_same xs (x.name ∷ b) (b ++ (x.name ∷ [])) (λ w. sym (among-last w b x.name))) ∙ go (among x.name b)
  where
    go : (v : Bool) → cond v (fault BoundTwice x.place ∷ bound_twice (b ++ (x.name ∷ [])) xs) (bound_twice (b ++ (x.name ∷ [])) xs) ≡ cond v (fault BoundTwice x.place ∷ []) [] ++ bound_twice (b ++ (x.name ∷ [])) xs
    go true = refl
    go false = refl

twice_append : (xs ys : List Binder) (b : List Name) → bound_twice b (xs ++ ys) ≡ bound_twice b xs ++ bound_twice (b ++ names_of xs) ys
twice_append [] ys b = ap (λ c. bound_twice c ys) (sym (append-nil b))
twice_append (x ∷ xs) ys b =
    twice_first x (xs ++ ys) b ∙ ap (λ r. again x b ++ r) (twice_append xs ys (b ++ (x.name ∷ [])))
    ∙ sym (append_assoc (again x b) (bound_twice (b ++ (x.name ∷ [])) xs) (bound_twice ((b ++ (x.name ∷ [])) ++ names_of xs) ys))
    ∙ ap (λ c. (again x b ++ bound_twice (b ++ (x.name ∷ [])) xs) ++ bound_twice c ys) (append_assoc b (x.name ∷ []) (names_of xs))
    ∙ ap (λ r. r ++ bound_twice (b ++ (x.name ∷ names_of xs)) ys) (sym (twice_first x xs b))

-- names in force, and the occurrences that each of them has
abbrev in_names : List InForce → List Name
in_names xs = map (λ x. x.binder.name) xs

abbrev some : List ℕ → Bool
some [] = false
some (p ∷ ps) = true

-- the occurrences of x, of all that `of` gives, where those in force inside it are xs
abbrev own : (Name → List ℕ) → InForce → List InForce → List ℕ
own of x xs = cond (among x.binder.name (in_names xs)) [] (of x.binder.name)

abbrev mark : InForce → List ℕ → InForce
mark x ps = record { binder = x.binder; used = x.used || some ps }

abbrev touch : List InForce → (Name → List ℕ) → List InForce
touch [] of = []
touch (x ∷ xs) of = mark x (own of x xs) ∷ touch xs of

-- the occurrences after the first
abbrev extra : Bool → List ℕ → List Refusal
extra true ps = map (fault UsedTwice) ps
extra false [] = []
extra false (p ∷ ps) = map (fault UsedTwice) ps

abbrev reuse : List InForce → (Name → List ℕ) → List Refusal
reuse [] of = []
reuse (x ∷ xs) of = extra x.used (own of x xs) ++ reuse xs of

touch_names : (xs : List InForce) (of : Name → List ℕ) → in_names (touch xs of) ≡ in_names xs
touch_names [] of = refl
touch_names (x ∷ xs) of = ap (λ (r : List Name). x.binder.name ∷ r) (touch_names xs of)

touch_length : (xs : List InForce) (of : Name → List ℕ) → length (touch xs of) ≡ length xs
touch_length [] of = refl
touch_length (x ∷ xs) of = ap suc (touch_length xs of)

-- no occurrences
own_none : (x : InForce) (xs : List InForce) → own (λ w. []) x xs ≡ []
own_none x xs = go (among x.binder.name (in_names xs))
  where
    go : (v : Bool) → cond {A = List ℕ} v [] [] ≡ []
    go true = refl
    go false = refl

mark_none : (x : InForce) → mark x [] ≡ x
mark_none x = ap (λ (v : Bool). let r : InForce = record { binder = x.binder; used = v } in r) (or_false x.used)

extra_none : (v : Bool) → extra v [] ≡ []
extra_none true = refl
extra_none false = refl

touch_none : (xs : List InForce) → touch xs (λ w. []) ≡ xs
touch_none [] = refl
touch_none (x ∷ xs) =
    let h : mark x (own (λ w. []) x xs) ≡ x = ap (mark x) (own_none x xs) ∙ mark_none x in
    ap (λ (y : InForce). y ∷ touch xs (λ w. [])) h ∙ ap (λ (r : List InForce). x ∷ r) (touch_none xs)

reuse_none : (xs : List InForce) → reuse xs (λ w. []) ≡ []
reuse_none [] = refl
reuse_none (x ∷ xs) =
    let h : extra x.used (own (λ w. []) x xs) ≡ [] = ap (extra x.used) (own_none x xs) ∙ extra_none x.used in
    ap (λ r. r ++ reuse xs (λ w. [])) h ∙ reuse_none xs

-- occurrences in one part and then in another
some_append : (a b : List ℕ) → some (a ++ b) ≡ (some a || some b)
some_append [] b = refl
some_append (p ∷ a) b = refl

extra_append : (v : Bool) (a b : List ℕ) → extra v (a ++ b) ≡ extra v a ++ extra (v || some a) b
extra_append true a b = map-append (fault UsedTwice) a b
extra_append false [] b = refl
extra_append false (p ∷ a) b = map-append (fault UsedTwice) a b

own_append : (f g : Name → List ℕ) (x : InForce) (xs ys : List InForce) → in_names ys ≡ in_names xs → own (λ w. f w ++ g w) x xs ≡ own f x xs ++ own g x ys
own_append f g x xs ys e = go (among x.binder.name (in_names xs)) ∙ ap (λ (n : List Name). own f x xs ++ cond (among x.binder.name n) [] (g x.binder.name)) (sym e)
  where
    go : (v : Bool) → cond v [] (f x.binder.name ++ g x.binder.name) ≡ cond v [] (f x.binder.name) ++ cond v [] (g x.binder.name)
    go true = refl
    go false = refl

mark_mark : (x : InForce) (a b : List ℕ) → mark (mark x a) b ≡ mark x (a ++ b)
mark_mark x a b = ap (λ (v : Bool). let r : InForce = record { binder = x.binder; used = v } in r) (or_assoc x.used (some a) (some b) ∙ ap (λ v. x.used || v) (sym (some_append a b)))

touch_two : (xs : List InForce) (f g : Name → List ℕ) → touch (touch xs f) g ≡ touch xs (λ w. f w ++ g w)
touch_two [] f g = refl
touch_two (x ∷ xs) f g =
    let h : mark (mark x (own f x xs)) (own g x (touch xs f)) ≡ mark x (own (λ w. f w ++ g w) x xs) = mark_mark x (own f x xs) (own g x (touch xs f)) ∙ ap (mark x) (sym (own_append f g x xs (touch xs f) (touch_names xs f))) in
    ap (λ (y : InForce). y ∷ touch (touch xs f) g) h ∙ ap (λ (r : List InForce). mark x (own (λ w. f w ++ g w) x xs) ∷ r) (touch_two xs f g)

reuse_two : (xs : List InForce) (f g : Name → List ℕ) (o : Option Refusal) → add_all (reuse xs (λ w. f w ++ g w)) o ≡ add_all (reuse xs f) (add_all (reuse (touch xs f) g) o)
reuse_two [] f g o = refl
reuse_two (x ∷ xs) f g o =
    let a = extra x.used (own f x xs) in
    let b = extra (x.used || some (own f x xs)) (own g x (touch xs f)) in
    let r = reuse xs f in
    let q = reuse (touch xs f) g in
    let h : extra x.used (own (λ w. f w ++ g w) x xs) ≡ a ++ b = ap (extra x.used) (own_append f g x xs (touch xs f) (touch_names xs f)) ∙ extra_append x.used (own f x xs) (own g x (touch xs f)) in
    ap (λ l. add_all (l ++ reuse xs (λ w. f w ++ g w)) o) h ∙ add_append (a ++ b) (reuse xs (λ w. f w ++ g w)) o ∙ ap (add_all (a ++ b)) (reuse_two xs f g o)
    ∙ add_append a b (add_all r (add_all q o)) ∙ ap (add_all a) (add_swap b r (add_all q o)) ∙ ap (λ z. add_all a (add_all r z)) (sym (add_append b q o)) ∙ sym (add_append a r (add_all (b ++ q) o))

-- one more name in force hides the same name outside it
abbrev hide : Name → (Name → List ℕ) → Name → List ℕ
hide n of w = cond (bytes_eq w n) [] (of w)

own_hide : (of : Name → List ℕ) (x y : InForce) (xs : List InForce) → own of x (xs ++ (y ∷ [])) ≡ own (hide y.binder.name of) x xs
own_hide of x y xs =
    ap (λ (n : List Name). cond (among x.binder.name n) [] (of x.binder.name)) (map-append (λ (z : InForce). z.binder.name) xs (y ∷ []))
    ∙ ap (λ v. cond v [] (of x.binder.name)) (among-append x.binder.name (in_names xs) (y.binder.name ∷ []) ∙ ap (λ v. among x.binder.name (in_names xs) || v) (or_false (bytes_eq x.binder.name y.binder.name)))
    ∙ go (among x.binder.name (in_names xs))
  where
    go : (v : Bool) → cond (v || bytes_eq x.binder.name y.binder.name) [] (of x.binder.name) ≡ cond v [] (hide y.binder.name of x.binder.name)
    go true = refl
    go false = refl

touch_push : (xs : List InForce) (y : InForce) (of : Name → List ℕ) → touch (xs ++ (y ∷ [])) of ≡ touch xs (hide y.binder.name of) ++ (mark y (of y.binder.name) ∷ [])
touch_push [] y of = refl
touch_push (x ∷ xs) y of =
    ap (λ (p : List ℕ). mark x p ∷ touch (xs ++ (y ∷ [])) of) (own_hide of x y xs) ∙ ap (λ (r : List InForce). mark x (own (hide y.binder.name of) x xs) ∷ r) (touch_push xs y of)

reuse_push : (xs : List InForce) (y : InForce) (of : Name → List ℕ) → reuse (xs ++ (y ∷ [])) of ≡ reuse xs (hide y.binder.name of) ++ extra y.used (of y.binder.name)
reuse_push [] y of = append-nil (extra y.used (of y.binder.name))
reuse_push (x ∷ xs) y of =
    ap (λ (p : List ℕ). extra x.used p ++ reuse (xs ++ (y ∷ [])) of) (own_hide of x y xs) ∙ ap (λ (r : List Refusal). extra x.used (own (hide y.binder.name of) x xs) ++ r) (reuse_push xs y of)
    ∙ sym (append_assoc (extra x.used (own (hide y.binder.name of) x xs)) (reuse xs (hide y.binder.name of)) (extra y.used (of y.binder.name)))

-- one occurrence
abbrev single : ℕ → Name → Name → List ℕ
single p w x = cond (bytes_eq x w) (p ∷ []) []

pub record Missed (p : ℕ) (w : Name) (xs : List InForce) : Type 0 where
  pub kept : touch xs (single p w) ≡ xs
  pub none : reuse xs (single p w) ≡ []
  pub unbound : among w (in_names xs) ≡ false

pub record Hit (p : ℕ) (w : Name) (xs : List InForce) (i : ℕ) : Type 0 where
  pub marked : touch xs (single p w) ≡ cond (get_or xs i nobody).used xs (set xs i (record { binder = (get_or xs i nobody).binder; used = true }))
  pub extra : reuse xs (single p w) ≡ cond (get_or xs i nobody).used (fault UsedTwice p ∷ []) []
  pub bound : among w (in_names xs) ≡ true

-- an outer name of another spelling, or one that an inner name hides, has no part in it
own_other : (p : ℕ) (w : Name) (x : InForce) (xs : List InForce) → ((bytes_eq w x.binder.name ≡ true) → among w (in_names xs) ≡ true) → own (single p w) x xs ≡ []
own_other p w x xs h = go (bytes_eq w x.binder.name) refl
  where
    go : (v : Bool) → bytes_eq w x.binder.name ≡ v → own (single p w) x xs ≡ []
    go true e =
        let k : w ≡ x.binder.name = same_is w x.binder.name e in
        let a : among x.binder.name (in_names xs) ≡ true = subst (λ (m : Name). among m (in_names xs) ≡ true) k (h e) in
        rw a refl
    go false e =
        let k : bytes_eq x.binder.name w ≡ false = same_sym x.binder.name w ∙ e in
        ap (λ v. cond (among x.binder.name (in_names xs)) [] (cond v (p ∷ []) [])) k ∙ own_none x xs

own_this : (p : ℕ) (w : Name) (x : InForce) (xs : List InForce) → bytes_eq w x.binder.name ≡ true → among w (in_names xs) ≡ false → own (single p w) x xs ≡ p ∷ []
own_this p w x xs e a =
    let k : w ≡ x.binder.name = same_is w x.binder.name e in
    let b : among x.binder.name (in_names xs) ≡ false = subst (λ (m : Name). among m (in_names xs) ≡ false) k a in
    let s : bytes_eq x.binder.name w ≡ true = same_sym x.binder.name w ∙ e in
    rw (b, s) refl

touch_skip : (p : ℕ) (w : Name) (x : InForce) (xs : List InForce) → own (single p w) x xs ≡ [] → touch (x ∷ xs) (single p w) ≡ x ∷ touch xs (single p w)
touch_skip p w x xs e = ap (λ (y : InForce). y ∷ touch xs (single p w)) (ap (mark x) e ∙ mark_none x)

reuse_skip : (p : ℕ) (w : Name) (x : InForce) (xs : List InForce) → own (single p w) x xs ≡ [] → reuse (x ∷ xs) (single p w) ≡ reuse xs (single p w)
reuse_skip p w x xs e = ap (λ r. r ++ reuse xs (single p w)) (ap (extra x.used) e ∙ extra_none x.used)

missed : (p : ℕ) (w : Name) (xs : List InForce) → found w xs ≡ None → Missed p w xs
missed p w [] e = record { kept = refl; none = refl; unbound = refl }
missed p w (x ∷ xs) e = go (found w xs) refl (bytes_eq w x.binder.name) refl (missed p w xs)
  where
    go : (o : Option ℕ) → found w xs ≡ o → (v : Bool) → bytes_eq w x.binder.name ≡ v → (found w xs ≡ None → Missed p w xs) → Missed p w (x ∷ xs)
    go (Some j) h v k ih = let z : Some (suc j) ≡ None = rw h at e in let y : ◌≡◌ {A = ℕ} 0 1 = cc in absurd (omega arith)
    go None h true k ih = let z : Some 0 ≡ None = rw (h, k) at e in let y : ◌≡◌ {A = ℕ} 0 1 = cc in absurd (omega arith)
    go None h false k ih =
        let m = ih h in
        let o : own (single p w) x xs ≡ [] = own_other p w x xs (λ t. let z : true ≡ false = sym t ∙ k in let y : ◌≡◌ {A = ℕ} 0 1 = cc in absurd (omega arith)) in
        record { kept = touch_skip p w x xs o ∙ ap (λ (r : List InForce). x ∷ r) m.kept; none = reuse_skip p w x xs o ∙ m.none; unbound = rw k m.unbound }

cond_cons : (v : Bool) (x : InForce) (a b : List InForce) → x ∷ cond v a b ≡ cond v (x ∷ a) (x ∷ b)
cond_cons true x a b = refl
cond_cons false x a b = refl

or_true : (v : Bool) → (v || true) ≡ true
or_true true = refl
or_true false = refl

used_now : (x : InForce) (xs : List InForce) (v : Bool) → x.used ≡ v → (let r : InForce = record { binder = x.binder; used = true } in r ∷ xs) ≡ cond x.used (x ∷ xs) (record { binder = x.binder; used = true } ∷ xs)
used_now x xs true u = rw u refl
used_now x xs false u = rw u refl

marked_here : (p : ℕ) (x : InForce) (xs : List InForce) → mark x (p ∷ []) ∷ xs ≡ cond x.used (x ∷ xs) (record { binder = x.binder; used = true } ∷ xs)
marked_here p x xs = ap (λ (b : Bool). let r : InForce = record { binder = x.binder; used = b } in r ∷ xs) (or_true x.used) ∙ used_now x xs x.used refl

extra_here : (p : ℕ) (v : Bool) → extra v (p ∷ []) ≡ cond v (fault UsedTwice p ∷ []) []
extra_here p true = refl
extra_here p false = refl

hit : (p : ℕ) (w : Name) (xs : List InForce) (i : ℕ) → found w xs ≡ Some i → Hit p w xs i
hit p w [] i e = let y : ◌≡◌ {A = ℕ} 0 1 = cc in absurd (omega arith)
hit p w (x ∷ xs) i e = go (found w xs) refl (bytes_eq w x.binder.name) refl (hit p w xs)
  where
    go : (o : Option ℕ) → found w xs ≡ o → (v : Bool) → bytes_eq w x.binder.name ≡ v → ((j : ℕ) → found w xs ≡ Some j → Hit p w xs j) → Hit p w (x ∷ xs) i
    go (Some j) h v k ih =
        let z : Some (suc j) ≡ Some i = rw h at e in
        let l : suc j ≡ i = cc in
        let m = ih j h in
        let o : own (single p w) x xs ≡ [] = own_other p w x xs (λ t. m.bound) in
        subst (Hit p w (x ∷ xs)) l (record {
          marked = touch_skip p w x xs o ∙ ap (λ (r : List InForce). x ∷ r) m.marked ∙ cond_cons (get_or xs j nobody).used x xs (set xs j (record { binder = (get_or xs j nobody).binder; used = true }));
          extra = reuse_skip p w x xs o ∙ m.extra;
          bound = ap (λ b. bytes_eq w x.binder.name || b) m.bound ∙ or_true (bytes_eq w x.binder.name);
        })
    go None h true k ih =
        let z : Some 0 ≡ Some i = rw (h, k) at e in
        let l : 0 ≡ i = cc in
        let m = missed p w xs h in
        let o = own_this p w x xs k m.unbound in
        subst (Hit p w (x ∷ xs)) l (record {
          marked = ap (λ (q : List ℕ). mark x q ∷ touch xs (single p w)) o ∙ ap (λ (r : List InForce). mark x (p ∷ []) ∷ r) m.kept ∙ marked_here p x xs;
          extra = ap (λ (q : List ℕ). extra x.used q ++ reuse xs (single p w)) o ∙ ap (λ (r : List Refusal). extra x.used (p ∷ []) ++ r) m.none ∙ append-nil (extra x.used (p ∷ [])) ∙ extra_here p x.used;
          bound = rw k refl;
        })
    go None h false k ih = let z : None ≡ Some i = rw (h, k) at e in let y : ◌≡◌ {A = ℕ} 0 1 = cc in absurd (omega arith)

-- what reading a term does to names: those bound, those in force, and the first fault
record Visited (t : Tree Name) (s : Names) : Type 0 where
  bound : (visit t s).bound ≡ s.bound ++ names_of (binders t)
  force : (visit t s).force ≡ touch s.force (λ w. occurrences w t)
  first : (visit t s).least ≡ add_all (unbound (in_names s.force) t) (add_all (bound_twice s.bound (binders t)) (add_all (misused t) (add_all (reuse s.force (λ w. occurrences w t)) s.least)))

visited_num : (p n : ℕ) (s : Names) → Visited (num p n) s
unfolding visit
visited_num p n s = record { bound = sym (append-nil s.bound); force = sym (touch_none s.force); first = ap (λ r. add_all r s.least) (sym (reuse_none s.force)) }

visited_occ : (p : ℕ) (w : Name) (s : Names) → Visited (occ p w) s
unfolding visit
visited_occ p w s = go (found w s.force) refl
  where
    missing : found w s.force ≡ None → Visited (occ p w) s
    missing e =
        let m = missed p w s.force e in
        let is : occur p w s ≡ note (fault Unbound p) s = rw (e, occur) refl in
        record {
          bound = ap (λ (n : Names). n.bound) is ∙ sym (append-nil s.bound);
          force = ap (λ (n : Names). n.force) is ∙ sym m.kept;
          first = ap (λ (n : Names). n.least) is ∙ ap (λ r. sooner (fault Unbound p) (add_all r s.least)) (sym m.none) ∙ ap (λ b. add_all (cond b [] (fault Unbound p ∷ [])) (add_all (reuse s.force (single p w)) s.least)) (sym m.unbound);
        }

    bound_here : (i : ℕ) → found w s.force ≡ Some i → (v : Bool) → (get_or s.force i nobody).used ≡ v → Visited (occ p w) s
    bound_here i e true u =
        let m = hit p w s.force i e in
        let is : occur p w s ≡ use_at p i s = rw (e, occur) refl in
        let is' : occur p w s ≡ note (fault UsedTwice p) s = is ∙ rw u refl in
        let kept : touch s.force (single p w) ≡ s.force = m.marked ∙ rw u refl in
        let once : reuse s.force (single p w) ≡ fault UsedTwice p ∷ [] = m.extra ∙ rw u refl in
        record {
          bound = ap (λ (n : Names). n.bound) is' ∙ sym (append-nil s.bound);
          force = ap (λ (n : Names). n.force) is' ∙ sym kept;
          first = ap (λ (n : Names). n.least) is' ∙ ap (λ r. add_all r s.least) (sym once) ∙ ap (λ b. add_all (cond b [] (fault Unbound p ∷ [])) (add_all (reuse s.force (single p w)) s.least)) (sym m.bound);
        }
    bound_here i e false u =
        let m = hit p w s.force i e in
        let is : occur p w s ≡ use_at p i s = rw (e, occur) refl in
        let is' : occur p w s ≡ record { bound = s.bound; force = set s.force i (record { binder = (get_or s.force i nobody).binder; used = true }); least = s.least } = is ∙ rw u refl in
        let marked : touch s.force (single p w) ≡ set s.force i (record { binder = (get_or s.force i nobody).binder; used = true }) = m.marked ∙ rw u refl in
        let none : reuse s.force (single p w) ≡ [] = m.extra ∙ rw u refl in
        record {
          bound = ap (λ (n : Names). n.bound) is' ∙ sym (append-nil s.bound);
          force = ap (λ (n : Names). n.force) is' ∙ sym marked;
          first = ap (λ (n : Names). n.least) is' ∙ ap (λ r. add_all r s.least) (sym none) ∙ ap (λ b. add_all (cond b [] (fault Unbound p ∷ [])) (add_all (reuse s.force (single p w)) s.least)) (sym m.bound);
        }

    go : (o : Option ℕ) → found w s.force ≡ o → Visited (occ p w) s
    go None e = missing e
    go (Some i) e = bound_here i e (get_or s.force i nobody).used refl

-- the faults of two parts, kind by kind
merge : (a b c d a' b' c' d' : List Refusal) (o : Option Refusal) → add_all a' (add_all b' (add_all c' (add_all d' (add_all a (add_all b (add_all c (add_all d o))))))) ≡ add_all a (add_all a' (add_all b (add_all b' (add_all c (add_all c' (add_all d (add_all d' o)))))))
merge a b c d a' b' c' d' o =
    move (a' ∷ b' ∷ c' ∷ d' ∷ []) a (b ∷ c ∷ d ∷ []) o
    ∙ ap (λ z. add_all a (add_all a' z)) (move (b' ∷ c' ∷ d' ∷ []) b (c ∷ d ∷ []) o
    ∙ ap (λ z. add_all b (add_all b' z)) (move (c' ∷ d' ∷ []) c (d ∷ []) o
    ∙ ap (λ z. add_all c (add_all c' z)) (move (d' ∷ []) d [] o)))

module _ (t u : Tree Name) (vt : (s : Names) → Visited t s) (vu : (s : Names) → Visited u s) (s : Names) where
  abbrev f : Name → List ℕ
  f w = occurrences w t

  abbrev g : Name → List ℕ
  g w = occurrences w u

  two_bound : (visit u (visit t s)).bound ≡ s.bound ++ names_of (binders t ++ binders u)
  two_bound =
      (vu (visit t s)).bound ∙ ap (λ b. b ++ names_of (binders u)) (vt s).bound ∙ append_assoc s.bound (names_of (binders t)) (names_of (binders u))
      ∙ ap (λ r. s.bound ++ r) (sym (map-append (λ (x : Binder). x.name) (binders t) (binders u)))

  two_force : (visit u (visit t s)).force ≡ touch s.force (λ w. f w ++ g w)
  two_force = (vu (visit t s)).force ∙ ap (λ (r : List InForce). touch r g) (vt s).force ∙ touch_two s.force f g

  after : List Name → List Name → List InForce → Option Refusal → Option Refusal
  after σ b r o = add_all (unbound σ u) (add_all (bound_twice b (binders u)) (add_all (misused u) (add_all (reuse r g) o)))

  two_first : (visit u (visit t s)).least ≡ add_all (unbound (in_names s.force) t ++ unbound (in_names s.force) u) (add_all (bound_twice s.bound (binders t ++ binders u)) (add_all (misused t ++ misused u) (add_all (reuse s.force (λ w. f w ++ g w)) s.least)))
  unfolding after
  two_first =
      let v = visit t s in
      let σ = in_names s.force in
      let o = s.least in
      let ut = unbound σ t in
      let uu = unbound σ u in
      let bt = bound_twice s.bound (binders t) in
      let bu = bound_twice (s.bound ++ names_of (binders t)) (binders u) in
      let rt = reuse s.force f in
      let ru = reuse (touch s.force f) g in
      let rest = add_all (misused t ++ misused u) (add_all (reuse s.force (λ w. f w ++ g w)) o) in
      let same : in_names v.force ≡ σ = ap in_names (vt s).force ∙ touch_names s.force f in
      (vu v).first ∙ ap (λ (n : List Name). after n v.bound v.force v.least) same ∙ ap (λ (b : List Name). after σ b v.force v.least) (vt s).bound ∙ ap (λ (r : List InForce). after σ (s.bound ++ names_of (binders t)) r v.least) (vt s).force ∙ ap (after σ (s.bound ++ names_of (binders t)) (touch s.force f)) (vt s).first
      ∙ merge ut bt (misused t) rt uu bu (misused u) ru o
      ∙ ap (λ z. add_all ut (add_all uu (add_all bt (add_all bu (add_all (misused t) (add_all (misused u) z)))))) (sym (reuse_two s.force f g o))
      ∙ ap (λ z. add_all ut (add_all uu (add_all bt (add_all bu z)))) (sym (add_append (misused t) (misused u) _))
      ∙ ap (λ z. add_all ut (add_all uu z)) (sym (add_append bt bu rest) ∙ ap (λ (l : List Refusal). add_all l rest) (sym (twice_append (binders t) (binders u) s.bound)))
      ∙ sym (add_append ut uu _)

  two : (p : ℕ) → Visited (app p t u) s
  unfolding visit
  two p = record { bound = two_bound; force = two_force; first = two_first }

-- a name that goes out of force without an occurrence
abbrev idle : Binder → List ℕ → List Refusal
idle x ps = cond (some ps) [] (fault Unused x.place ∷ [])

once_is : (x : Binder) (ps : List ℕ) → used_once x ps ≡ idle x ps ++ extra false ps
once_is x [] = refl
once_is x (p ∷ ps) = refl

unused_one : (x : Binder) (ps : List ℕ) (o : Option Refusal) → unused (mark (record { binder = x; used = false }) ps ∷ []) o ≡ add_all (idle x ps) o
unused_one x [] o = refl
unused_one x (p ∷ ps) o = refl

unused_two : (x y : Binder) (ps qs : List ℕ) (o : Option Refusal) → unused (mark (record { binder = x; used = false }) ps ∷ mark (record { binder = y; used = false }) qs ∷ []) o ≡ add_all (idle y qs) (add_all (idle x ps) o)
unused_two x y [] [] o = refl
unused_two x y [] (q ∷ qs) o = refl
unused_two x y (p ∷ ps) [] o = refl
unused_two x y (p ∷ ps) (q ∷ qs) o = refl

declared_first : (x : Binder) (s : Names) → (declare x s).least ≡ add_all (again x s.bound) s.least
declared_first x s = go (among x.name s.bound)
  where
    go : (v : Bool) → cond v (sooner (fault BoundTwice x.place) s.least) s.least ≡ add_all (cond v (fault BoundTwice x.place ∷ []) []) s.least
    go true = refl
    go false = refl

take_exact : {X : Type 0} (a b : List X) → take (length a) (a ++ b) ≡ a
take_exact [] b = refl
take_exact (x ∷ a) b = ap (λ r. x ∷ r) (take_exact a b)

drop_exact : {X : Type 0} (a b : List X) → drop (length a) (a ++ b) ≡ b
drop_exact [] b = refl
drop_exact (x ∷ a) b = drop_exact a b

module _ (p : ℕ) (x : Binder) (T : Ty) (t : Tree Name) (vt : (s : Names) → Visited t s) (s : Names) where
  abbrev inner : Names
  inner = enter x (declare x s)

  abbrev body : Name → List ℕ
  body w = occurrences w t

  abbrev whole : Name → List ℕ
  whole w = occurrences w (lam p x T t)

  abbrev h : ℕ
  h = length s.force

  body_force : (visit t inner).force ≡ touch s.force whole ++ (mark (record { binder = x; used = false }) (body x.name) ∷ [])
  body_force = (vt inner).force ∙ touch_push s.force (record { binder = x; used = false }) body

  height : h ≡ length (touch s.force whole)
  height = sym (touch_length s.force whole)

  order : (i u b m r a d : List Refusal) (o : Option Refusal) → add_all i (add_all u (add_all b (add_all m (add_all r (add_all a (add_all d o)))))) ≡ add_all u (add_all d (add_all b (add_all i (add_all a (add_all m (add_all r o))))))
  order i u b m r a d o =
      move (i ∷ []) u (b ∷ m ∷ r ∷ a ∷ d ∷ []) o
      ∙ ap (add_all u) (move (i ∷ b ∷ m ∷ r ∷ a ∷ []) d [] o
      ∙ ap (add_all d) (move (i ∷ []) b (m ∷ r ∷ a ∷ []) o
      ∙ ap (λ z. add_all b (add_all i z)) (move (m ∷ r ∷ []) a [] o)))

  visited_lam : Visited (lam p x T t) s
  unfolding visit
  visited_lam =
      let o = s.least in
      let σ = in_names s.force in
      let n = x.name in
      let i = idle x (body n) in
      let u = unbound (n ∷ σ) t in
      let b = bound_twice (s.bound ++ (n ∷ [])) (binders t) in
      let m = misused t in
      let r = reuse s.force whole in
      let a = extra false (body n) in
      let d = again x s.bound in
      let v = visit t inner in
      let left : drop h v.force ≡ mark (record { binder = x; used = false }) (body n) ∷ [] = ap (drop h) body_force ∙ ap (λ (k : ℕ). drop k (touch s.force whole ++ (mark (record { binder = x; used = false }) (body n) ∷ []))) height ∙ drop_exact (touch s.force whole) (mark (record { binder = x; used = false }) (body n) ∷ []) in
      let scope : unbound (in_names inner.force) t ≡ u = unbound-same t (in_names inner.force) (n ∷ σ) (λ w. ap (among w) (map-append (λ (z : InForce). z.binder.name) s.force (record { binder = x; used = false } ∷ [])) ∙ among-last w σ n) in
      let first : v.least ≡ add_all u (add_all b (add_all m (add_all r (add_all a (add_all d o))))) =
      (vt inner).first ∙ ap (λ (l : List Refusal). add_all l (add_all b (add_all m (add_all (reuse inner.force body) inner.least)))) scope
      ∙ ap (λ (l : List Refusal). add_all u (add_all b (add_all m (add_all l inner.least)))) (reuse_push s.force (record { binder = x; used = false }) body)
      ∙ ap (λ z. add_all u (add_all b (add_all m z))) (add_append r a inner.least) ∙ ap (λ z. add_all u (add_all b (add_all m (add_all r (add_all a z))))) (declared_first x s) in
      record {
        bound = (vt inner).bound ∙ append_assoc s.bound (n ∷ []) (names_of (binders t));
        force = ap (take h) body_force ∙ ap (λ (k : ℕ). take k (touch s.force whole ++ (mark (record { binder = x; used = false }) (body n) ∷ []))) height ∙ take_exact (touch s.force whole) (mark (record { binder = x; used = false }) (body n) ∷ []);
        first = ap (λ (l : List InForce). unused l v.least) left ∙ unused_one x (body n) v.least ∙ ap (add_all i) first ∙ order i u b m r a d o
            ∙ ap (λ z. add_all u (add_all d (add_all b z))) (sym (add_append i a (add_all m (add_all r o))) ∙ ap (λ (l : List Refusal). add_all l (add_all m (add_all r o))) (sym (once_is x (body n))) ∙ sym (add_append (used_once x (body n)) m (add_all r o)))
            ∙ ap (add_all u) (sym (add_append d b (add_all (used_once x (body n) ++ m) (add_all r o))) ∙ ap (λ (l : List Refusal). add_all l (add_all (used_once x (body n) ++ m) (add_all r o))) (sym (twice_first x (binders t) s.bound)));
      }

or_swap : (a b c : Bool) → (a || (b || c)) ≡ (b || (a || c))
or_swap true true c = refl
or_swap true false c = refl
or_swap false b c = refl

-- the names of a let, one after the other
module _ (p : ℕ) (x y : Binder) (t u : Tree Name) (vt : (s : Names) → Visited t s) (vu : (s : Names) → Visited u s) (s : Names) where
  abbrev outer : Names
  outer = declare y (declare x s)

  abbrev mid : Names
  mid = visit t outer

  abbrev within : Names
  within = enter y (enter x mid)

  abbrev ft : Name → List ℕ
  ft w = occurrences w t

  abbrev fu : Name → List ℕ
  fu w = occurrences w u

  abbrev hidden : Name → List ℕ
  hidden w = hide x.name (hide y.name fu) w

  abbrev all : Name → List ℕ
  all w = occurrences w (split p x y t u)

  abbrev x₀ : InForce
  x₀ = record { binder = x; used = false }

  abbrev y₀ : InForce
  y₀ = record { binder = y; used = false }

  abbrev px : List ℕ
  px = hide y.name fu x.name

  abbrev py : List ℕ
  py = fu y.name

  hide_two : (w : Name) → hidden w ≡ cond (bytes_eq w x.name || bytes_eq w y.name) [] (fu w)
  hide_two w = go (bytes_eq w x.name)
    where
      go : (v : Bool) → cond v [] (hide y.name fu w) ≡ cond (v || bytes_eq w y.name) [] (fu w)
      go true = refl
      go false = refl

  joined : (λ (w : Name). ft w ++ hidden w) ≡ all
  joined = fun_ext (λ w. ap (λ (l : List ℕ). ft w ++ l) (hide_two w))

  let_force : (visit u within).force ≡ touch s.force all ++ (mark x₀ px ∷ mark y₀ py ∷ [])
  let_force =
      (vu within).force ∙ touch_push (mid.force ++ (x₀ ∷ [])) y₀ fu
      ∙ ap (λ (l : List InForce). l ++ (mark y₀ py ∷ [])) (touch_push mid.force x₀ (hide y.name fu) ∙ ap (λ (l : List InForce). l ++ (mark x₀ px ∷ [])) (ap (λ (l : List InForce). touch l hidden) (vt outer).force ∙ touch_two s.force ft hidden ∙ ap (touch s.force) joined))
      ∙ append_assoc (touch s.force all) (mark x₀ px ∷ []) (mark y₀ py ∷ [])

  let_names : (w : Name) → among w (in_names within.force) ≡ among w (x.name ∷ y.name ∷ in_names s.force)
  let_names w =
      let σ = in_names s.force in
      let inside : in_names within.force ≡ (σ ++ (x.name ∷ [])) ++ (y.name ∷ []) =
      map-append (λ (z : InForce). z.binder.name) (mid.force ++ (x₀ ∷ [])) (y₀ ∷ []) ∙ ap (λ (l : List Name). l ++ (y.name ∷ [])) (map-append (λ (z : InForce). z.binder.name) mid.force (x₀ ∷ []) ∙ ap (λ (l : List Name). l ++ (x.name ∷ [])) (ap in_names (vt outer).force ∙ touch_names s.force ft)) in
      ap (among w) inside ∙ among-last w (σ ++ (x.name ∷ [])) y.name ∙ ap (λ v. bytes_eq w y.name || v) (among-last w σ x.name) ∙ or_swap (bytes_eq w y.name) (bytes_eq w x.name) (among w σ)

  let_reuse : (o : Option Refusal) → add_all (reuse within.force fu) o ≡ add_all (reuse (touch s.force ft) hidden) (add_all (extra false px) (add_all (extra false py) o))
  let_reuse o =
      ap (λ (l : List Refusal). add_all l o) (reuse_push (mid.force ++ (x₀ ∷ [])) y₀ fu) ∙ add_append (reuse (mid.force ++ (x₀ ∷ [])) (hide y.name fu)) (extra false py) o
      ∙ ap (λ (l : List Refusal). add_all l (add_all (extra false py) o)) (reuse_push mid.force x₀ (hide y.name fu)) ∙ add_append (reuse mid.force hidden) (extra false px) (add_all (extra false py) o)
      ∙ ap (λ (l : List InForce). add_all (reuse l hidden) (add_all (extra false px) (add_all (extra false py) o))) (vt outer).force

  let_order : (iy ix uu bu mu ru ax ay ut bt mt rt ty tx : List Refusal) (o : Option Refusal) → add_each (iy ∷ ix ∷ uu ∷ bu ∷ mu ∷ ru ∷ ax ∷ ay ∷ ut ∷ bt ∷ mt ∷ rt ∷ ty ∷ tx ∷ []) o ≡ add_each (ut ∷ uu ∷ tx ∷ ty ∷ bt ∷ bu ∷ ix ∷ ax ∷ iy ∷ ay ∷ mt ∷ mu ∷ rt ∷ ru ∷ []) o
  let_order iy ix uu bu mu ru ax ay ut bt mt rt ty tx o =
      move (iy ∷ ix ∷ uu ∷ bu ∷ mu ∷ ru ∷ ax ∷ ay ∷ []) ut (bt ∷ mt ∷ rt ∷ ty ∷ tx ∷ []) o
      ∙ ap (add_all ut) (move (iy ∷ ix ∷ []) uu (bu ∷ mu ∷ ru ∷ ax ∷ ay ∷ bt ∷ mt ∷ rt ∷ ty ∷ tx ∷ []) o
      ∙ ap (add_all uu) (move (iy ∷ ix ∷ bu ∷ mu ∷ ru ∷ ax ∷ ay ∷ bt ∷ mt ∷ rt ∷ ty ∷ []) tx [] o
      ∙ ap (add_all tx) (move (iy ∷ ix ∷ bu ∷ mu ∷ ru ∷ ax ∷ ay ∷ bt ∷ mt ∷ rt ∷ []) ty [] o
      ∙ ap (add_all ty) (move (iy ∷ ix ∷ bu ∷ mu ∷ ru ∷ ax ∷ ay ∷ []) bt (mt ∷ rt ∷ []) o
      ∙ ap (add_all bt) (move (iy ∷ ix ∷ []) bu (mu ∷ ru ∷ ax ∷ ay ∷ mt ∷ rt ∷ []) o
      ∙ ap (add_all bu) (move (iy ∷ []) ix (mu ∷ ru ∷ ax ∷ ay ∷ mt ∷ rt ∷ []) o
      ∙ ap (add_all ix) (move (iy ∷ mu ∷ ru ∷ []) ax (ay ∷ mt ∷ rt ∷ []) o
      ∙ ap (λ z. add_all ax (add_all iy z)) (move (mu ∷ ru ∷ []) ay (mt ∷ rt ∷ []) o
      ∙ ap (add_all ay) (move (mu ∷ ru ∷ []) mt (rt ∷ []) o
      ∙ ap (λ z. add_all mt (add_all mu z)) (move (ru ∷ []) rt [] o))))))))))

  let_twice : bound_twice s.bound (x ∷ y ∷ (binders t ++ binders u)) ≡ again x s.bound ++ (again y (s.bound ++ (x.name ∷ [])) ++ (bound_twice outer.bound (binders t) ++ bound_twice (outer.bound ++ names_of (binders t)) (binders u)))
  let_twice =
      twice_first x (y ∷ (binders t ++ binders u)) s.bound
      ∙ ap (λ (l : List Refusal). again x s.bound ++ l) (twice_first y (binders t ++ binders u) (s.bound ++ (x.name ∷ [])) ∙ ap (λ (l : List Refusal). again y (s.bound ++ (x.name ∷ [])) ++ l) (twice_append (binders t) (binders u) outer.bound))

  visited_let : Visited (split p x y t u) s
  unfolding visit
  visited_let =
      let o = s.least in
      let σ = in_names s.force in
      let h = length s.force in
      let v = visit u within in
      let iy = idle y py in
      let ix = idle x px in
      let ay = extra false py in
      let ax = extra false px in
      let ut = unbound σ t in
      let uu = unbound (x.name ∷ y.name ∷ σ) u in
      let bt = bound_twice outer.bound (binders t) in
      let bu = bound_twice (outer.bound ++ names_of (binders t)) (binders u) in
      let mt = misused t in
      let mu = misused u in
      let rt = reuse s.force ft in
      let ru = reuse (touch s.force ft) hidden in
      let tx = again x s.bound in
      let ty = again y (s.bound ++ (x.name ∷ [])) in
      let end : List InForce = mark x₀ px ∷ mark y₀ py ∷ [] in
      let height : h ≡ length (touch s.force all) = sym (touch_length s.force all) in
      let left : drop h v.force ≡ end = ap (drop h) let_force ∙ ap (λ (k : ℕ). drop k (touch s.force all ++ end)) height ∙ drop_exact (touch s.force all) end in
      let before : mid.least ≡ add_all ut (add_all bt (add_all mt (add_all rt (add_all ty (add_all tx o))))) = (vt outer).first ∙ ap (λ z. add_all ut (add_all bt (add_all mt (add_all rt z)))) (declared_first y (declare x s) ∙ ap (add_all ty) (declared_first x s)) in
      let first : v.least ≡ add_all uu (add_all bu (add_all mu (add_all ru (add_all ax (add_all ay mid.least))))) =
      (vu within).first ∙ ap (λ (l : List Refusal). add_all l (add_all (bound_twice mid.bound (binders u)) (add_all mu (add_all (reuse within.force fu) mid.least)))) (unbound-same u (in_names within.force) (x.name ∷ y.name ∷ σ) let_names)
      ∙ ap (λ (l : List Name). add_all uu (add_all (bound_twice l (binders u)) (add_all mu (add_all (reuse within.force fu) mid.least)))) (vt outer).bound ∙ ap (λ z. add_all uu (add_all bu (add_all mu z))) (let_reuse mid.least) in
      let uses : add_all (used_once x px ++ (used_once y py ++ (mt ++ mu))) (add_all (reuse s.force all) o) ≡ add_all ix (add_all ax (add_all iy (add_all ay (add_all mt (add_all mu (add_all rt (add_all ru o))))))) =
      add_append (used_once x px) (used_once y py ++ (mt ++ mu)) _ ∙ ap (add_all (used_once x px)) (add_append (used_once y py) (mt ++ mu) _ ∙ ap (add_all (used_once y py)) (add_append mt mu _ ∙ ap (λ z. add_all mt (add_all mu z)) (ap (λ (k : Name → List ℕ). add_all (reuse s.force k) o) (sym joined) ∙ reuse_two s.force ft hidden o)))
      ∙ ap (λ (l : List Refusal). add_all l (add_all (used_once y py) (add_all mt (add_all mu (add_all rt (add_all ru o)))))) (once_is x px) ∙ add_append ix ax _ ∙ ap (λ (l : List Refusal). add_all ix (add_all ax (add_all l (add_all mt (add_all mu (add_all rt (add_all ru o))))))) (once_is y py) ∙ ap (λ z. add_all ix (add_all ax z)) (add_append iy ay _) in
      let rest = add_all (used_once x px ++ (used_once y py ++ (mt ++ mu))) (add_all (reuse s.force all) o) in
      let twice : add_all (bound_twice s.bound (x ∷ y ∷ (binders t ++ binders u))) rest ≡ add_all tx (add_all ty (add_all bt (add_all bu rest))) =
      ap (λ (l : List Refusal). add_all l rest) let_twice ∙ add_append tx (ty ++ (bt ++ bu)) rest ∙ ap (add_all tx) (add_append ty (bt ++ bu) rest ∙ ap (add_all ty) (add_append bt bu rest)) in
      record {
        bound = (vu within).bound ∙ ap (λ (l : List Name). l ++ names_of (binders u)) (vt outer).bound ∙ append_assoc outer.bound (names_of (binders t)) (names_of (binders u)) ∙ append_assoc (s.bound ++ (x.name ∷ [])) (y.name ∷ []) (names_of (binders t) ++ names_of (binders u)) ∙ append_assoc s.bound (x.name ∷ []) (y.name ∷ (names_of (binders t) ++ names_of (binders u))) ∙ ap (λ (l : List Name). s.bound ++ (x.name ∷ y.name ∷ l)) (sym (map-append (λ (z : Binder). z.name) (binders t) (binders u)));
        force = ap (take h) let_force ∙ ap (λ (k : ℕ). take k (touch s.force all ++ end)) height ∙ take_exact (touch s.force all) end;
        first = ap (λ (l : List InForce). unused l v.least) left ∙ unused_two x y px py v.least ∙ ap (λ z. add_all iy (add_all ix z)) (first ∙ ap (λ z. add_all uu (add_all bu (add_all mu (add_all ru (add_all ax (add_all ay z)))))) before)
            ∙ let_order iy ix uu bu mu ru ax ay ut bt mt rt ty tx o
            ∙ sym (add_append ut uu _ ∙ ap (λ z. add_all ut (add_all uu z)) (twice ∙ ap (λ z. add_all tx (add_all ty (add_all bt (add_all bu z)))) uses));
      }

visited : (t : Tree Name) (s : Names) → Visited t s
unfolding visit
visited (occ p w) s = visited_occ p w s
visited (num p n) s = visited_num p n s
visited (succ p t) s = let x = visited t s in record { bound = x.bound; force = x.force; first = x.first }
visited (lam p x T t) s = visited_lam p x T t (visited t) s
visited (app p t u) s = two t u (visited t) (visited u) s p
visited (pair p t u) s = let x = two t u (visited t) (visited u) s p in record { bound = x.bound; force = x.force; first = x.first }
visited (split p x y t u) s = visited_let p x y t u (visited t) (visited u) s
visited (iter p t u v) s =
    let x = two t (app p u v) (visited t) (λ r. two u v (visited u) (visited v) r p) s p in
    record { bound = x.bound; force = x.force; first = x.first }

-- reading meets the fault that goes before all others
pub first-fault : (t : Tree Name) → (visit t no_names).least ≡ name_fault t
first-fault t =
    (visited t no_names).first ∙ sym (least_is (name_faults t) ∙ add_append (unbound [] t) (bound_twice [] (binders t) ++ misused t) None ∙ ap (add_all (unbound [] t)) (add_append (bound_twice [] (binders t)) (misused t) None))
