-- A list comes to hold f of each tag in front, one after the other. Assumes nothing.
use mathlib.Core.Path.{◌≡◌, refl, sym, ap, ◌∙◌}
use mathlib.Core.List.{List, [], ◌∷◌, append-nil, map, map-append}
use Prim.Native.Nat.{ℕ, ◌+◌, ◌≤◌, ◌<◌}
use native.Mathlib.Numerals.{add-one}
use native.Mathlib.Omega.{arith}
use lib.ListN.{length, get_or, set, take, length-map, length-set}
use lib.Seq.{take-suc, take_all, drop-length, length-take-le}
use Rattle.lists.specs.Regions.{front}
use Rattle.lists.proofs.Regions.{front_behind, front_store}

-- ---- the pass

-- the first i tags are done
pub record Written (f : ℕ → ℕ) (tags list list' : List ℕ) (i : ℕ) : Type 0 where
  pub within : i ≤ length tags
  pub long : length list' ≡ length list
  pub held : list' ≡ front list (map f (take i tags))

module _ (f : ℕ → ℕ) (tags list : List ℕ) (fits : length tags ≤ length list) where
  pub none_written : Written f tags list list 0
  unfolding front
  none_written = record { within = omega arith; long = refl; held = refl }

  module _ (list' : List ℕ) (i : ℕ) (w : Written f tags list list' i) where
    front_long : length (map f (take i tags)) ≡ i
    front_long = length-map (take i tags) f ∙ length-take-le i tags w.within

    -- what stands behind isn't touched yet
    pub not_yet : i < length list → get_or list' i 0 ≡ get_or list i 0
    not_yet h = ap (λ (l : List ℕ). get_or l i 0) w.held ∙ front_behind list (map f (take i tags)) i 0 (omega (arith, front_long))

    pub one_more : i < length tags → (v : ℕ) → v ≡ f (get_or tags i 0) → Written f tags list (set list' i v) (i + 1)
    one_more h v e =
        record {
          within = omega (arith, h);
          long = length-set list' i v ∙ w.long;
          held =
              ap (set list' i) e
              ∙ front_store list list' (map f (take i tags)) i (f (get_or tags i 0)) 0 front_long (omega (arith, h, fits)) w.held
              ∙ ap (front list) (sym (ap (map f) (ap (λ (k : ℕ). take k tags) (add-one i) ∙ take-suc tags i 0 h) ∙ map-append f (take i tags) (get_or tags i 0 ∷ [])));
        }

    pub all_written : length tags ≤ i → list' ≡ front list (map f tags)
    all_written h = w.held ∙ ap (λ (l : List ℕ). front list (map f l)) (take_all i tags h)

-- in the place of the tags
pub in_place : (f : ℕ → ℕ) (tags : List ℕ) → front tags (map f tags) ≡ map f tags
unfolding front
in_place f tags = rw (length-map, drop-length, append-nil)
