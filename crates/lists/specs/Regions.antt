-- Parts of a lent list: a run of it, its front, a region in its middle, and a list of zeros. Assumes nothing.
use Rattle.std.specs.Prelude.{◌≡◌, ◌≤◌, ℕ, ◌+◌, ◌&&◌, cond, List, ◌∷◌, ◌++◌, leb, ltb, length, take, drop, replicate, Float}
use Rattle.std.specs.Float.{binary64}
use Rattle.std.specs.Float.Ieee.{of_bits}

module _ {A : Type 0} where
  -- the n elements from b on
  unfoldable pub run : List A → ℕ → ℕ → List A
  run w b n = take n (drop b w)

  -- w with its first elements replaced by xs
  unfoldable pub front : List A → List A → List A
  front w xs = xs ++ drop (length xs) w

  -- w with the elements from b on replaced by xs
  unfoldable pub put : List A → ℕ → List A → List A
  put w b xs = take b w ++ front (drop b w) xs

  -- the same where xs has its place in w; w where it hasn't
  unfoldable pub copied : List A → ℕ → List A → List A
  copied w b xs = cond (leb (b + length xs) (length w)) (put w b xs) w

  -- x put in at k, what stands from k on moves up
  unfoldable pub put_in : ℕ → A → List A → List A
  put_in k x xs = take k xs ++ x ∷ drop k xs

  -- the first n elements with x put in at k, where k is no larger than n and w longer; w where not
  unfoldable pub insert_at : List A → ℕ → ℕ → A → List A
  insert_at w n k x = cond (leb k n && ltb n (length w)) (front w (put_in k x (take n w))) w

-- a list comes to hold xs in front; the answer is how many they are
pub record FrontIs (xs out : List ℕ) (r : ℕ) (out' : List ℕ) : Type 0 where
  pub count : r ≡ length xs
  pub fits : r ≤ length out
  pub held : out' ≡ front out xs

abbrev pub zeros : ℕ → List ℕ
zeros n = replicate n 0

-- of floats: +0
abbrev pub fzeros : ℕ → List Float
fzeros n = replicate n (of_bits binary64 0)
