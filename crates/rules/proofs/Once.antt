-- No piece is listed twice: the pieces of a listing differ in mesh, cell or place. Assumes nothing.
use mathlib.Core.Logic.{◌⊎◌, inl, inr}
use mathlib.Core.Path.{◌≡◌, refl, sym, ap, ◌∙◌, subst}
use mathlib.Core.Bool.{Bool, true, false, cond}
use mathlib.Core.List.Memᴰ
use mathlib.Core.List.{List, [], ◌∷◌, ◌++◌, Memᴰ}
use Prim.Native.Nat.{ℕ, zero, suc, ◌<◌}
use native.Mathlib.Omega.{arith}
use lib.ListN.{length, get_or}
use Rattle.lists.specs.Gather.{gathered, each, passing}
use Rattle.settings.specs.declared.Settings.{Settings}
use Rattle.entry.specs.Mesh.{Mesh}
use Rattle.rules.specs.Mesh.{Side, the_subject, the_cutter, side_number}
use Rattle.rules.specs.Meetings.{Scene, net_of}
use Rattle.rules.specs.Operations.{cuts, keeps, scene_for, Piece, pieces_of, piece_at, piece_with, lies_inside, kept, kept_with, over_cells, listing, listing_with}
use Rattle.rules.specs.Demand3.{ListedAt, SamePiece}
use Rattle.lists.proofs.Gather.{gathered_at, each_at, passing_at}
use Rattle.lists.proofs.Gather.{in_list}

-- ---- lists of pieces in which none stands twice

abbrev Apart : List Piece → List Piece → Type 0
Apart xs ys = (p q : Piece) → Memᴰ p xs → Memᴰ q ys → SamePiece p q → ⊥

abbrev Once : List Piece → Type 0
Once [] = Unit {0}
Once (x ∷ xs) = ((q : Piece) → Memᴰ q xs → SamePiece x q → ⊥) × Once xs

once_append : (xs ys : List Piece) → Once xs → Once ys → Apart xs ys → Once (xs ++ ys)
once_append [] ys h k a = k
once_append (x ∷ xs) ys h k a = (λ q m s. go q s (Memᴰ.append_cases xs m), once_append xs ys h.1 k (λ p q m n s. a p q (Memᴰ.tail m) n s))
  where
    go : (q : Piece) → SamePiece x q → Memᴰ q xs ⊎ Memᴰ q ys → ⊥
    go q s (inl m) = h.0 q m s
    go q s (inr m) = a x q (Memᴰ.head refl) m s

once_passing : (p : Piece → Bool) (xs : List Piece) → Once xs → Once (passing p xs)
unfolding passing
once_passing p [] h = tt
once_passing p (x ∷ xs) h = go (p x) (once_passing p xs h.1)
  where
    go : (t : Bool) → Once (passing p xs) → Once (elim t [ true ↦ x ∷ passing p xs | false ↦ passing p xs ])
    go true ih = (λ q m s. h.0 q (passing_at p xs q m).0 s, ih)
    go false ih = ih

once_gathered : (n : ℕ) (f : ℕ → List Piece) → ((i : ℕ) → Once (f i)) → ((i j : ℕ) → i < j → Apart (f i) (f j)) → Once (gathered n f)
unfolding gathered
once_gathered zero f h a = tt
once_gathered (suc n) f h a = once_append (gathered n f) (f n) (once_gathered n f h a) (h n) (λ p q m k s. go p q k s (gathered_at n f p m))
  where
    go : (p q : Piece) → Memᴰ q (f n) → SamePiece p q → (i : ℕ) × (i < n) × Memᴰ p (f i) → ⊥
    go p q k s r = a r.0 n r.1 p q r.2 k s

-- what stands at two places of such a list isn't the same
once_at : (l : List Piece) → Once l → (k k' : ℕ) → k < length l → k' < length l → (d : Piece) → SamePiece (get_or l k d) (get_or l k' d) → k ≡ k'
once_at [] h k k' b b' d s = absurd (omega (arith, b))
once_at (x ∷ xs) h zero zero b b' d s = refl
once_at (x ∷ xs) h zero (suc k') b b' d s = absurd (h.0 (get_or xs k' d) (in_list xs k' (omega (arith, b')) d) s)
once_at (x ∷ xs) h (suc k) zero b b' d s = absurd (h.0 (get_or xs k d) (in_list xs k (omega (arith, b)) d)
    (record { mesh = sym s.mesh; cell = sym s.cell; place = sym s.place }))
once_at (x ∷ xs) h (suc k) (suc k') b b' d s = ap suc (once_at xs h.1 k k' (omega (arith, b)) (omega (arith, b')) d s)

-- ---- a cell's pieces differ in place, those of two cells in cell, those of two meshes in mesh

module _ (sc : Scene) (op : ℕ) (w : Side) where
  known : (i j : ℕ) → ((piece_at sc w i j).mesh ≡ w) × ((piece_at sc w i j).cell ≡ i) × ((piece_at sc w i j).place ≡ j)
  unfolding piece_with
  known i j = (refl, refl, refl)

  of_each : (i n : ℕ) (p : Piece) → Memᴰ p (each n (piece_at sc w i)) → (j : ℕ) × (p ≡ piece_at sc w i j)
  of_each i n p m = let r = each_at n (piece_at sc w i) p m in (r.0, r.2)

  of_kept : (i : ℕ) (p : Piece) → Memᴰ p (kept sc w op i) → (p.mesh ≡ w) × (p.cell ≡ i)
  unfolding kept_with
  of_kept i p m =
      let r = of_each i (length (pieces_of sc w i)) p (passing_at (λ q. keeps op w (lies_inside sc w q)) (each (length (pieces_of sc w i)) (piece_at sc w i)) p m).0 in
      (ap (λ (q : Piece). q.mesh) r.1 ∙ (known i r.0).0, ap (λ (q : Piece). q.cell) r.1 ∙ (known i r.0).1)

  once_each : (i n : ℕ) → Once (each n (piece_at sc w i))
  once_each i n = once_gathered n (λ j. piece_at sc w i j ∷ []) (λ j. (λ q m s. Memᴰ.not-nil m, tt))
      (λ a b h p q m k s. go a b h p q (Memᴰ.cases_cons m) (Memᴰ.cases_cons k) s)
    where
      go : (a b : ℕ) → a < b → (p q : Piece) → (p ≡ piece_at sc w i a) ⊎ Memᴰ p [] → (q ≡ piece_at sc w i b) ⊎ Memᴰ q [] → SamePiece p q → ⊥
      go a b h p q (inr m) k s = Memᴰ.not-nil m
      go a b h p q (inl e) (inr k) s = Memᴰ.not-nil k
      go a b h p q (inl e) (inl f) s =
          let x : p.place ≡ a = ap (λ (r : Piece). r.place) e ∙ (known i a).2 in
          let y : q.place ≡ b = ap (λ (r : Piece). r.place) f ∙ (known i b).2 in
          let z : a ≡ b = sym x ∙ s.place ∙ y in
          omega (arith, h, z)

  once_kept : (i : ℕ) → Once (kept sc w op i)
  unfolding kept_with
  once_kept i = once_passing (λ q. keeps op w (lies_inside sc w q)) (each (length (pieces_of sc w i)) (piece_at sc w i)) (once_each i (length (pieces_of sc w i)))

  once_over : (t : Bool) → Once (cond t (gathered (length (net_of sc w).cells) (kept sc w op)) [])
  once_over true = once_gathered (length (net_of sc w).cells) (kept sc w op) once_kept
      (λ a b h p q m k s. let z : a ≡ b = sym (of_kept a p m).1 ∙ s.cell ∙ (of_kept b q k).1 in omega (arith, h, z))
  once_over false = tt

  of_over : (t : Bool) (p : Piece) → Memᴰ p (cond t (gathered (length (net_of sc w).cells) (kept sc w op)) []) → p.mesh ≡ w
  of_over true p m = let r = gathered_at (length (net_of sc w).cells) (kept sc w op) p m in (of_kept r.0 p r.2).0
  of_over false p m = absurd (Memᴰ.not-nil m)

two_meshes : the_subject ≡ the_cutter → ⊥
two_meshes e = let z : ◌≡◌ {A = ℕ} 0 1 = ap side_number e in omega (arith, z)

module _ (o : Settings) (s c : Mesh) where
  abbrev sc : Scene
  sc = scene_for o s c

  once_listing : Once (listing o s c)
  unfolding listing_with
  once_listing =
      once_append (over_cells o.op sc the_subject (kept sc the_subject o.op)) (over_cells o.op sc the_cutter (kept sc the_cutter o.op))
      (once_over sc o.op the_subject (cuts o.op the_subject)) (once_over sc o.op the_cutter (cuts o.op the_cutter))
      (λ p q m k e. two_meshes (sym (of_over sc o.op the_subject (cuts o.op the_subject) p m) ∙ e.mesh ∙ of_over sc o.op the_cutter (cuts o.op the_cutter) q k))

  pub one_place : (p q : Piece) (k k' : ℕ) → ListedAt p k o s c → ListedAt q k' o s c → SamePiece p q → k ≡ k'
  one_place p q k k' a b e =
      once_at (listing o s c) once_listing k k' a.below b.below p
      (subst (λ (x : Piece). SamePiece x (get_or (listing o s c) k' p)) (sym (a.is p)) (subst (λ (y : Piece). SamePiece p y) (sym (b.is p)) e))
