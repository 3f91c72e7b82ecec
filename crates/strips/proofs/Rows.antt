-- The squares that a search goes over: row by row, level by level. Assumes nothing.
use mathlib.Core.Path.{◌≡◌, sym, ap, ◌∙◌}
use mathlib.Core.List.{List, [], ◌++◌}
use Prim.Native.Nat.{ℕ, suc, ◌+◌, ◌-◌, ◌≤◌, ◌<◌}
use native.Mathlib.Omega.{arith}
use lib.ListN.{length, take}
use Rattle.strips.specs.declared.squares.Span.{Span}
use Rattle.strips.specs.Squares.{halved, square_chain, Small}
use Rattle.strips.specs.declared.gathering.Search.{Search}
use Rattle.strips.specs.Gathering.{Risen, with_things, in_row, in_level, in_levels}
use Rattle.strips.specs.Search.{wanted, chain, row, level, levels}
use Rattle.lists.specs.Regions.{FrontIs}
use Rattle.strips.proofs.Walk.{Putting, putting_start, putting_risen, putting_more, putting_end, Going, going_start, going_risen, going_turn, going_end}

module _ (g : Search) where
  -- ---- a row

  module _ (s : Span) (y : ℕ) where
    abbrev squares : ℕ → List ℕ
    squares i = chain g (square_chain (length g.heads.now) s (s.x0 - 1 + i) y)

    -- the squares before x have been gone over
    pub record InRow (k : ℕ) (found₀ : List ℕ) (x r : ℕ) (found : List ℕ) : Type 0 where
      pub going : Going (wanted g) squares (s.x0 - 1) s.x1 k found₀ x r found

    module _ (k : ℕ) (found₀ : List ℕ) where
      pub row_start : (x : ℕ) → Risen k found₀ → x ≡ s.x0 - 1 → InRow k found₀ x k found₀
      row_start x risen e = record { going = rw e (going_start (wanted g) squares (s.x0 - 1) s.x1 k found₀ risen) }

      module _ (x r : ℕ) (found : List ℕ) (inv : InRow k found₀ x r found) where
        pub row_risen : Risen r found
        row_risen = going_risen _ _ _ _ _ _ x r found inv.going

        pub row_turn : (c q : ℕ) (found' : List ℕ) → x < s.x1 + 1 → c ≡ square_chain (length g.heads.now) s x y
            → FrontIs (with_things (length found) (wanted g) (take r found) (chain g c)) found q found' → InRow k found₀ (x + 1) q found'
        row_turn c q found' l e next =
            let z : x ≡ s.x0 - 1 + (x - (s.x0 - 1)) = omega (arith, inv.going.from) in
            record {
              going = going_turn _ _ _ _ _ _ x r found inv.going q (chain g c) found' (omega (arith, l))
                  (ap (chain g) (e ∙ ap (λ (i : ℕ). square_chain (length g.heads.now) s i y) z)) next;
            }

        pub row_end : s.x1 + 1 ≤ x → FrontIs (with_things (length found₀) (wanted g) (take k found₀) (row g s y)) found₀ r found
        unfolding in_row
        row_end l = going_end _ _ _ _ _ _ x r found inv.going (omega (arith, l))

  -- ---- a level

  module _ (s : Span) where
    abbrev rows : ℕ → List ℕ
    rows i = row g s (s.y0 - 1 + i)

    -- the rows before y have been gone over
    pub record InLevel (k : ℕ) (found₀ : List ℕ) (y r : ℕ) (found : List ℕ) : Type 0 where
      pub going : Going (wanted g) rows (s.y0 - 1) s.y1 k found₀ y r found

    module _ (k : ℕ) (found₀ : List ℕ) where
      pub level_start : (y : ℕ) → Risen k found₀ → y ≡ s.y0 - 1 → InLevel k found₀ y k found₀
      level_start y risen e = record { going = rw e (going_start (wanted g) rows (s.y0 - 1) s.y1 k found₀ risen) }

      module _ (y r : ℕ) (found : List ℕ) (inv : InLevel k found₀ y r found) where
        pub level_asks : Small s → y < s.y1 + 1 → Small s × (y ≤ 256) × Risen r found
        level_asks small l = (small, omega (arith, l, small.y1_small), going_risen _ _ _ _ _ _ y r found inv.going)

        pub level_turn : (q : ℕ) (found' : List ℕ) → y < s.y1 + 1
            → FrontIs (with_things (length found) (wanted g) (take r found) (row g s y)) found q found' → InLevel k found₀ (y + 1) q found'
        level_turn q found' l next =
            let z : y ≡ s.y0 - 1 + (y - (s.y0 - 1)) = omega (arith, inv.going.from) in
            record { going = going_turn _ _ _ _ _ _ y r found inv.going q (row g s y) found' (omega (arith, l)) (ap (row g s) z) next }

        pub level_end : s.y1 + 1 ≤ y → FrontIs (with_things (length found₀) (wanted g) (take k found₀) (level g s)) found₀ r found
        unfolding in_level
        level_end l = going_end _ _ _ _ _ _ y r found inv.going (omega (arith, l))

  -- ---- all levels

  -- l levels have been gone over; s is the span on the next one
  pub record InLevels (first : Span) (most : ℕ) (found₀ : List ℕ) (r : ℕ) (s : Span) (l : ℕ) (found : List ℕ) : Type 0 where
    pub low : l ≤ most
    pub small : Small s
    pub at : s.level ≡ l
    pub putting : Putting (wanted g) (levels g first most) 0 found₀ (levels g s (most - l)) r found

  module _ (first : Span) (most : ℕ) (found₀ : List ℕ) where
    pub levels_start : Small first → first.level ≡ 0 → InLevels first most found₀ 0 first 0 found₀
    levels_start small e =
        let z : most - 0 ≡ most = omega arith in
        let none : Risen 0 found₀ = record { fits = omega arith; rises = λ i k a b. absurd (omega arith) } in
        record { low = omega arith; small = small; at = e; putting = putting_start _ _ 0 found₀ (levels g first (most - 0)) (ap (levels g first) z) none }

    module _ (r l : ℕ) (s : Span) (found : List ℕ) (inv : InLevels first most found₀ r s l found) where
      pub levels_asks : Small s × Risen r found
      levels_asks = (inv.small, putting_risen _ _ 0 found₀ _ r found inv.putting)

      pub levels_turn : (q : ℕ) (t : Span) (found' : List ℕ) → l < most → t ≡ halved s → Small t
          → FrontIs (with_things (length found) (wanted g) (take r found) (level g s)) found q found' → InLevels first most found₀ q t (l + 1) found'
      unfolding in_levels
      levels_turn q t found' more e small next =
          let z : most - l ≡ suc (most - (l + 1)) = omega arith in
          record {
            low = omega arith;
            small = small;
            at = ap (λ (u : Span). u.level) e ∙ ap (λ (i : ℕ). i + 1) inv.at;
            putting = putting_more _ _ 0 found₀ _ r found inv.putting (level g s) (levels g t (most - (l + 1)))
                (ap (levels g s) z ∙ ap (λ (u : Span). level g s ++ levels g u (most - (l + 1))) (sym e)) q found' next;
          }

      pub levels_end : most ≤ l → FrontIs (with_things (length found₀) (wanted g) [] (levels g first most)) found₀ r found
      unfolding in_levels
      levels_end done =
          let z : most - l ≡ 0 = omega arith in
          putting_end _ _ 0 found₀ _ r found inv.putting (ap (levels g s) z)
