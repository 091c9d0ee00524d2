-- Texts with known answers, over the whole specification from the bytes on. Assumes nothing.
use Rattle.std.specs.Prelude.{◌≡◌, ℕ, List, [], ◌∷◌, ◌++◌, map, replicate, Ok, Err, codes}
use Rattle.calculus.specs.Types.{N}
use Rattle.calculus.specs.Typing.{Typed, weight}
use Rattle.syntax.specs.declared.refusal.Fault.TheVariants.{TooLong, WrongSign, LargeNumber, PassedLimit, Unbound, BoundTwice, UsedTwice, Unused, IllTyped, NoNumber, HighType, ManyIterators}
use Rattle.syntax.specs.Trees.{Tree, num, erase}
use Rattle.syntax.specs.Names.{fault}
use Rattle.language.specs.Accepts.{accepts}

abbrev flat : List (List ℕ) → List ℕ
flat [] = []
flat (w ∷ ws) = w ++ flat ws

-- one blank more than a text may have bytes
abbrev pub long_text : List ℕ
long_text = replicate 16385 32

-- 128 successor signs and a number, which is then 129 deep
abbrev pub deep_text : List ℕ
deep_text = replicate 128 83 ++ codes "3"

-- a function of a variable whose type has the height 63, with a pair as its body
abbrev pub high_text : List ℕ
high_text = codes "\\x:" ++ (flat (replicate 63 (codes "(N*")) ++ (codes "N" ++ (replicate 63 41 ++ codes ".<x,1>")))

-- iterators one inside another, each with a name of two letters of its own
abbrev iteration : ℕ → ℕ → List ℕ
iteration a b = codes "iter 1 \\" ++ (a ∷ b ∷ (codes ":N." ++ (a ∷ b ∷ codes " ")))

abbrev pub iterated_text : List ℕ → List ℕ
iterated_text firsts = flat (map (λ a. flat (map (iteration a) (codes "abcdefghijklm"))) firsts) ++ codes "3"

-- the text is accepted, and every derivation of its term has the weight n
pub record Weighs (text : List ℕ) (n : ℕ) : Type 0 where
  pub term : Tree ℕ
  pub accepted : accepts text ≡ Ok term
  pub derived : Typed [] (erase term) N
  pub weighs : (d : Typed [] (erase term) N) → weight d ≡ n

-- a refusal of each question, and programs of each construct
pub record KnownAnswers : Type 0 where
  pub too_long : accepts long_text ≡ Err (fault TooLong 0)
  pub wrong_sign : accepts (codes "(\\x:N.S x S)") ≡ Err (fault WrongSign 11)
  pub large_number : accepts (codes "1000000001") ≡ Err (fault LargeNumber 0)
  pub largest_number : accepts (codes "1000000000") ≡ Ok (num 0 1000000000)
  pub passed_limit : accepts deep_text ≡ Err (fault PassedLimit 128)
  pub unbound : accepts (codes "x") ≡ Err (fault Unbound 0)
  pub bound_twice : accepts (codes "\\x:N.(\\x:N.x x)") ≡ Err (fault BoundTwice 7)
  pub used_twice : accepts (codes "\\x:N.<x,x>") ≡ Err (fault UsedTwice 8)
  pub unused : accepts (codes "\\x:N.3") ≡ Err (fault Unused 1)
  pub ill_typed : accepts (codes "(3 4)") ≡ Err (fault IllTyped 0)
  pub high_type : accepts high_text ≡ Err (fault HighType 0)
  pub no_number : accepts (codes "\\x:N.x") ≡ Err (fault NoNumber 0)
  -- 65 iterators, 5 times 13
  pub many_iterators : accepts (iterated_text (codes "abcde")) ≡ Err (fault ManyIterators 0)
  pub number_weighs : Weighs (codes "3") 1
  pub application_weighs : Weighs (codes "(\\x:N.S x 3)") 6
  pub let_weighs : Weighs (codes "let <x,y> = <\\z:N.z,7> in (x y)") 11
  pub iterator_weighs : Weighs (codes "iter 2 \\x:N.S x 3") 7
