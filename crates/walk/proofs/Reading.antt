-- The words read so far, and one more.
use Rattle.std.proofs.Common.{◌≡◌, ℕ, ◌+◌, ◌<◌, true, false, Err, List, [], ◌∷◌, ◌++◌, map, length, get_or, take, drop, sym, ap, ◌∙◌, subst, take-append-drop}
use Rattle.std.proofs.lemmas.List.{take_more, drop_more, map-append}
use Rattle.walk.specs.declared.plan.Plan.{Plan}
use Rattle.walk.specs.declared.plan.NoPlan.{NoPlan}
use Rattle.walk.specs.declared.plan.NoPlan.TheVariants as no
use Rattle.walk.specs.Words.{Taken, Led, IsBlank, one_more}
use Rattle.walk.specs.Refusing.{Took, Unplanned}

-- the texts up to one at i, and it
up_to : {X : Type 0} (f : X → List ℕ) (xs : List X) (i : ℕ) (x : X) → i < length xs → x ≡ get_or xs i x → map f (take (i + 1) xs) ≡ map f (take i xs) ++ (f x ∷ [])
up_to f xs i x h e = ap (map f) (take_more xs i x h ∙ ap (λ y. take i xs ++ (y ∷ [])) (sym e)) ∙ map-append f (take i xs) (x ∷ [])

-- all the texts, cut there
pub cut_at : {X : Type 0} (f : X → List ℕ) (xs : List X) (i : ℕ) (x : X) → i < length xs → x ≡ get_or xs i x → map f xs ≡ map f (take i xs) ++ (f x ∷ map f (drop (i + 1) xs))
cut_at f xs i x h e =
    ap (map f) (sym (take-append-drop i xs) ∙ ap (λ l. take i xs ++ l) (drop_more xs i x h ∙ ap (λ y. y ∷ drop (i + 1) xs) (sym e)))
    ∙ map-append f (take i xs) (x ∷ drop (i + 1) xs)

pub taken_as : (q z : Plan) {w v : List ℕ} → w ≡ v → Taken q.wanted w q z true → Taken q.wanted v q z true
taken_as q z e t = subst (λ (u : List ℕ). Taken q.wanted u q z true) e t

pub led_more : {X : Type 0} (f : X → List ℕ) (xs : List X) (i : ℕ) (x : X) {p q z : Plan} → i < length xs → x ≡ get_or xs i x → Led p (map f (take i xs)) q → Taken q.wanted (f x) q z true → Led p (map f (take (i + 1) xs)) z
led_more f xs i x {p} {q} {z} h e l t = subst (λ (ws : List (List ℕ)). Led p ws z) (sym (up_to f xs i x h e)) (one_more (f x) q l t)

-- a word that is not taken is named, unless memory was wanting
pub refused : {X : Type 0} (f : X → List ℕ) (xs : List X) (i : ℕ) (x : X) {p q : Plan} (z : Plan) (told : NoPlan) {w : List ℕ} → i < length xs → x ≡ get_or xs i x → w ≡ f x → IsBlank p → Led p (map f (take i xs)) q → Took q.wanted w q z (Err told) → Unplanned (map f xs) told
refused f xs i x {p} {q} z (no.NotKnown word) h e a b l t = record {
  start = p;
  blank = b;
  before = map f (take i xs);
  after = f x ∷ map f (drop (i + 1) xs);
  all = cut_at f xs i x h e;
  reached = q;
  led = l;
  stops = (t.0 ∙ a, (t.1.0, subst (λ (v : List ℕ). Taken q.wanted v q t.1.0 false) a t.1.1));
}
refused f xs i x z no.NoNumber h e a b l t = absurd t
refused f xs i x z (no.Memory error) h e a b l t = tt
