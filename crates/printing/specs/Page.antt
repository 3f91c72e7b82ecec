-- A text written into a lent list, byte by byte, as far as the list goes. Assumes nothing.
use Rattle.std.specs.Prelude.{◌≡◌, ℕ, ◌+◌, cond, List, [], ◌∷◌, ◌++◌, length, take, drop, set, ltb, leb, Result, Ok, Err}
use Rattle.printing.specs.declared.Full.{Full}

-- the place of the next byte, or that the list is full
abbrev pub Place : Type 0
Place = Result ℕ Full

abbrev pub full : Place
full = Err (record {})

-- the list and the place of the next byte
pub record Page : Type 0 where
  pub bytes : List ℕ
  pub place : Place

unfoldable pub page : Place → List ℕ → Page
page p o = record { bytes = o; place = p }

unfoldable pub byte : Place → List ℕ → ℕ → Page
byte (Err e) o b = page (Err e) o
byte (Ok p) o b = cond (ltb p (length o)) (page (Ok (p + 1)) (set o p b)) (page full o)

unfoldable pub page_with : Page → List ℕ → Page
page_with g [] = g
page_with g (b ∷ t) = page_with (byte g.place g.bytes b) t

-- the answer for the text t in a list of n bytes
unfoldable pub room_for : ℕ → List ℕ → Place
room_for n t = cond (leb (length t) n) (Ok (length t)) full

-- the list o with the text t in front, as far as the list goes
unfoldable pub laid_over : List ℕ → List ℕ → List ℕ
laid_over o t = take (length o) t ++ drop (length t) o

-- the answer r to the text t, which makes the list u of o
pub record Prints (r : Place) (o u t : List ℕ) : Type 0 where
  pub place : r ≡ room_for (length o) t
  pub bytes : u ≡ laid_over o t
