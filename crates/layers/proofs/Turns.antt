-- The layers of all nodes, written to the front of a list meeting by meeting. Assumes nothing.
use mathlib.Core.Path.{◌≡◌, refl, sym, ap, ◌∙◌}
use mathlib.Core.Bool.{Bool, true, false}
use mathlib.Core.List.{List, [], ◌∷◌, ◌++◌}
use Prim.Native.Nat.{ℕ, zero, suc, ◌+◌, ◌-◌, ◌*◌, ◌/◌, ◌≤◌, ◌<◌}
use native.Mathlib.Omega.{arith}
use native.Mathlib.Numerals.{add-one}
use lib.Dec.{eqb}
use lib.ListN.{length, get_or, set, drop, length-append}
use Rattle.std.proofs.Common.{get_or-take, get_or-drop}
use Rattle.std.specs.Simd.{first_chunks}
use borrow.Author.Tests.{eqb-true, eqb-false, eq-eqb, ne_eqb}
use Rattle.lists.specs.Regions.{front, put, copied}
use Rattle.lists.proofs.Regions.{length_front, front_put, front_store, copied_fits, put_append, length_put}
use Rattle.layers.specs.Written.{layer_at, layers_to}

-- ---- what one meeting adds

module _ (ss cs es met : List ℕ) where
  abbrev to : ℕ → List ℕ
  to k = layers_to k ss cs es met

  -- that of meeting k's subject edge
  abbrev layer : ℕ → ℕ
  layer k = layer_at ss es (get_or met (5 * k) 0)

  pub to_new : (k : ℕ) → get_or met (5 * k + 3) 0 ≡ length (layers_to k ss cs es met)
      → layers_to (k + 1) ss cs es met ≡ layers_to k ss cs es met ++ layer_at ss es (get_or met (5 * k) 0) ∷ []
  unfolding layers_to
  to_new k e = rw (add-one, eq-eqb (get_or met (5 * k + 3) 0) (length (to k)) e)

  pub to_known : (k : ℕ) → (get_or met (5 * k + 3) 0 ≡ length (layers_to k ss cs es met) → ⊥) → layers_to (k + 1) ss cs es met ≡ layers_to k ss cs es met
  unfolding layers_to
  to_known k n = rw (add-one, ne_eqb (get_or met (5 * k + 3) 0) (length (to k)) n)

  grows : (k : ℕ) → length (layers_to k ss cs es met) ≤ length (layers_to (k + 1) ss cs es met)
  grows k = go (eqb (get_or met (5 * k + 3) 0) (length (to k))) refl
    where
      go : (b : Bool) → eqb (get_or met (5 * k + 3) 0) (length (to k)) ≡ b → length (to k) ≤ length (to (k + 1))
      go true e = omega (arith, ap length (to_new k (eqb-true (get_or met (5 * k + 3) 0) (length (to k)) e)), length-append (to k) (layer k ∷ []))
      go false e = omega (arith, ap length (to_known k (eqb-false (get_or met (5 * k + 3) 0) (length (to k)) e)))

  up : (k j : ℕ) → length (layers_to k ss cs es met) ≤ length (layers_to (k + j) ss cs es met)
  up k zero = let e : k + 0 ≡ k = omega arith in omega (arith, ap (λ (i : ℕ). length (to i)) e)
  up k (suc j) = let e : k + j + 1 ≡ k + suc j = omega arith in omega (arith, up k j, grows (k + j), ap (λ (i : ℕ). length (to i)) e)

  -- ---- the list that they are written to has room for those by n meetings

  module _ (old : List ℕ) (n : ℕ) (room : length (layers_to n ss cs es met) ≤ length old) where
    in_room : (k : ℕ) → k ≤ n → length (layers_to k ss cs es met) ≤ length old
    in_room k h = let e : k + (n - k) ≡ n = omega arith in omega (arith, room, up k (n - k), ap (λ (i : ℕ). length (to i)) e)

    -- both meshes' layers
    pub start : (w₁ w₂ : List ℕ) → w₁ ≡ copied old 0 ss → w₂ ≡ copied w₁ (length ss) cs → (w₂ ≡ front old (layers_to 0 ss cs es met)) × (length ss + length cs ≡ length (layers_to 0 ss cs es met))
    unfolding layers_to
    start w₁ w₂ e f =
        let all : length ss + length cs ≤ length old = omega (arith, in_room 0 (omega arith), length-append ss cs) in
        let one : w₁ ≡ put old 0 ss = e ∙ copied_fits old 0 ss (omega (arith, all)) in
        let long : length (put old 0 ss) ≡ length old = length_put old 0 (omega arith) ss (omega (arith, all)) in
        let zero_on : length ss ≡ 0 + length ss = omega arith in (
          f ∙ ap (λ (w : List ℕ). copied w (length ss) cs) one ∙ copied_fits (put old 0 ss) (length ss) cs (omega (arith, all, long))
              ∙ ap (λ (b : ℕ). put (put old 0 ss) b cs) zero_on ∙ put_append old 0 (omega arith) ss cs (omega (arith, all)) ∙ front_put old (ss ++ cs),
          sym (length-append ss cs),
        )

    module _ (k : ℕ) (h : k < n) (w : List ℕ) (next : ℕ) (held : (w ≡ front old (layers_to k ss cs es met)) × (next ≡ length (layers_to k ss cs es met))) where
      module _ (new : get_or met (5 * k + 3) 0 ≡ next) where
        longer : length (layers_to (k + 1) ss cs es met) ≡ next + 1
        longer = ap length (to_new k (new ∙ held.1)) ∙ length-append (to k) (layer k ∷ []) ∙ ap (λ (i : ℕ). i + 1) (sym held.1)

        next_in : next < length old
        next_in = omega (arith, longer, in_room (k + 1) (omega arith))

        pub place : next < length w
        place = omega (arith, next_in, ap length held.0, length_front old (to k) (in_room k (omega arith)))

        pub taken : (set w next (layer_at ss es (get_or met (5 * k) 0)) ≡ front old (layers_to (k + 1) ss cs es met))
            × (next + 1 ≡ length (layers_to (k + 1) ss cs es met))
        taken = (front_store old w (to k) next (layer k) 0 (sym held.1) next_in held.0 ∙ ap (front old) (sym (to_new k (new ∙ held.1))), sym longer)

      pub passed_by : (get_or met (5 * k + 3) 0 ≡ next → ⊥) → (w ≡ front old (layers_to (k + 1) ss cs es met)) × (next ≡ length (layers_to (k + 1) ss cs es met))
      passed_by old_one =
          let e = to_known k (λ z. old_one (z ∙ sym held.1)) in (held.0 ∙ ap (front old) (sym e), held.1 ∙ ap length (sym e))

-- ---- number j of meeting i

chunk_at : (xs : List ℕ) (n i j : ℕ) (d : List ℕ) → i < n → j < 5 → get_or (get_or (first_chunks 5 n xs) i d) j 0 ≡ get_or xs (5 * i + j) 0
chunk_at xs zero i j d h l = absurd (omega arith)
chunk_at xs (suc n) zero j d h l = let e : j ≡ 5 * zero + j = omega arith in get_or-take 5 xs j 0 l ∙ ap (λ (k : ℕ). get_or xs k 0) e
chunk_at xs (suc n) (suc i) j d h l =
    let e : 5 + (5 * i + j) ≡ 5 * suc i + j = omega arith in
    chunk_at (drop 5 xs) n i j d (omega arith) l ∙ get_or-drop 5 xs (5 * i + j) 0 ∙ ap (λ (k : ℕ). get_or xs k 0) e

pub number_is : (met : List ℕ) (chunks : List (List ℕ)) (i j : ℕ) (d : List ℕ) → chunks ≡ first_chunks 5 (length met / 5) met → i < length met / 5 → j < 5
    → get_or (get_or chunks i d) j 0 ≡ get_or met (5 * i + j) 0
number_is met chunks i j d e h l = ap (λ (xs : List (List ℕ)). get_or (get_or xs i d) j 0) e ∙ chunk_at met (length met / 5) i j d h l

-- the first of them
pub first_is : (met : List ℕ) (chunks : List (List ℕ)) (i : ℕ) (d : List ℕ) → chunks ≡ first_chunks 5 (length met / 5) met → i < length met / 5
    → get_or (get_or chunks i d) 0 0 ≡ get_or met (5 * i) 0
first_is met chunks i d e h = let z : 5 * i + 0 ≡ 5 * i = omega arith in number_is met chunks i 0 d e h (omega arith) ∙ ap (λ (k : ℕ). get_or met k 0) z

-- ---- a turn, by the numbers of the meeting as the loop has them

module _ (ss cs es met old : List ℕ) (room : length (layers_to (length met / 5) ss cs es met) ≤ length old) (chunks : List (List ℕ)) (parted : chunks ≡ first_chunks 5 (length met / 5) met)
    (i : ℕ) (h : i < length met / 5) (w : List ℕ) (next : ℕ) (held : (w ≡ front old (layers_to i ss cs es met)) × (next ≡ length (layers_to i ss cs es met))) (d : List ℕ) where
  node : get_or (get_or chunks i d) 3 0 ≡ get_or met (5 * i + 3) 0
  node = number_is met chunks i 3 d parted h (omega arith)

  pub place_at : get_or (get_or chunks i d) 3 0 ≡ next → next < length w
  place_at e = place ss cs es met old (length met / 5) room i h w next held (sym node ∙ e)

  pub turn_new : get_or (get_or chunks i d) 3 0 ≡ next → (layer : ℕ) → layer ≡ layer_at ss es (get_or (get_or chunks i d) 0 0)
      → (w' : List ℕ) (next' : ℕ) → w' ≡ set w next layer → next' ≡ next + 1
      → (w' ≡ front old (layers_to (i + 1) ss cs es met)) × (next' ≡ length (layers_to (i + 1) ss cs es met))
  turn_new e layer is w' next' ew en =
      let t = taken ss cs es met old (length met / 5) room i h w next held (sym node ∙ e) in
      (ew ∙ ap (set w next) (is ∙ ap (layer_at ss es) (first_is met chunks i d parted h)) ∙ t.0, en ∙ t.1)

  pub turn_known : (get_or (get_or chunks i d) 3 0 ≡ next → ⊥) → (w' : List ℕ) (next' : ℕ) → w' ≡ w → next' ≡ next
      → (w' ≡ front old (layers_to (i + 1) ss cs es met)) × (next' ≡ length (layers_to (i + 1) ss cs es met))
  turn_known n w' next' ew en =
      let t = passed_by ss cs es met old (length met / 5) room i h w next held (λ z. n (node ∙ z)) in
      (ew ∙ t.0, en ∙ t.1)
