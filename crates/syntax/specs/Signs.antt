-- The signs of a text: longest runs of a–z, longest runs of 0–9, and other single bytes. Assumes nothing.
use Rattle.std.specs.Prelude.{ℕ, ◌+◌, ◌-◌, ◌*◌, Bool, true, false, cond, not, ◌&&◌, ◌||◌, List, [], ◌∷◌, length, codes, ◌==◌, nat_le}
use Rattle.std.specs.Str.{bytes_eq}

pub data Sign : Type 0 where
  word : List ℕ → Sign
  digits : List ℕ → Sign
  mark : ℕ → Sign

-- a sign, and the place of its first byte
abbrev pub Placed : Type 0
Placed = ℕ × Sign

-- a space or a line feed, which is no sign
abbrev pub blank : ℕ → Bool
blank b = b == 32 || b == 10

-- a byte from low to high
abbrev pub within : ℕ → ℕ → ℕ → Bool
within low high b = nat_le low b && nat_le b high

-- a to z
abbrev pub letter : ℕ → Bool
letter = within 97 122

-- 0 to 9
abbrev pub digit : ℕ → Bool
digit = within 48 57

-- does the text go on with such a byte?
abbrev pub begins : (ℕ → Bool) → List ℕ → Bool
begins kind [] = false
begins kind (b ∷ s) = kind b

-- the letter b at place p, before signs of which the first is the rest of its run or begins anew
abbrev pub with_letter : ℕ → ℕ → Bool → List Placed → List Placed
with_letter p b joined [] = (p, word (b ∷ [])) ∷ []
with_letter p b joined ((q, word w) ∷ s) = cond joined ((p, word (b ∷ w)) ∷ s) ((p, word (b ∷ [])) ∷ (q, word w) ∷ s)
with_letter p b joined ((q, digits w) ∷ s) = (p, word (b ∷ [])) ∷ (q, digits w) ∷ s
with_letter p b joined ((q, mark c) ∷ s) = (p, word (b ∷ [])) ∷ (q, mark c) ∷ s

-- the digit b at place p, likewise
abbrev pub with_digit : ℕ → ℕ → Bool → List Placed → List Placed
with_digit p b joined [] = (p, digits (b ∷ [])) ∷ []
with_digit p b joined ((q, digits w) ∷ s) = cond joined ((p, digits (b ∷ w)) ∷ s) ((p, digits (b ∷ [])) ∷ (q, digits w) ∷ s)
with_digit p b joined ((q, word w) ∷ s) = (p, digits (b ∷ [])) ∷ (q, word w) ∷ s
with_digit p b joined ((q, mark c) ∷ s) = (p, digits (b ∷ [])) ∷ (q, mark c) ∷ s

-- the byte b at place p, before the text s with its signs
abbrev pub with_byte : ℕ → ℕ → List ℕ → List Placed → List Placed
with_byte p b s signs =
    cond (blank b) signs
    (cond (letter b) (with_letter p b (begins letter s) signs)
    (cond (digit b) (with_digit p b (begins digit s) signs)
    ((p, mark b) ∷ signs)))

-- the signs of what is left of a text that ends at place `end`: a byte's place is as far before the end as what is left from it on is long
unfoldable pub lex : ℕ → List ℕ → List Placed
lex end [] = []
lex end (b ∷ s) = with_byte (end - length (b ∷ s)) b s (lex end s)

-- the signs of a whole text, with their places counted from 0
abbrev pub signs_of : List ℕ → List Placed
signs_of text = lex (length text) text

-- the words that are no names
abbrev pub is_let : List ℕ → Bool
is_let w = bytes_eq w (codes "let")

abbrev pub is_in : List ℕ → Bool
is_in w = bytes_eq w (codes "in")

abbrev pub is_iter : List ℕ → Bool
is_iter w = bytes_eq w (codes "iter")

-- a run of letters is a name if it has at most 16 and is none of these words
abbrev pub is_name : List ℕ → Bool
is_name w = nat_le (length w) 16 && (not (is_let w) && (not (is_in w) && not (is_iter w)))

-- a run of digits is a number if it begins with 0 only where it is `0`
abbrev pub is_number : List ℕ → Bool
is_number [] = false
is_number (d ∷ []) = true
is_number (d ∷ e ∷ ds) = not (d == 48)

-- the number that digits write, after those that wrote n
abbrev pub number_after : ℕ → List ℕ → ℕ
number_after n [] = n
number_after n (d ∷ ds) = number_after (n * 10 + (d - 48)) ds

abbrev pub number_of : List ℕ → ℕ
number_of ds = number_after 0 ds
