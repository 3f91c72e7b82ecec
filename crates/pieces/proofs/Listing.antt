-- The pieces that are placed for a cell are those of the listing, with their events. Assumes nothing.
use mathlib.Core.Path.{◌≡◌, refl, sym, ap, ap₂, ◌∙◌}
use mathlib.Core.Bool.{Bool, true, false}
use mathlib.Core.List.{List, [], ◌∷◌, ◌++◌, map, map-append}
use Prim.Native.Nat.{ℕ, zero, suc}
use lib.ListN.{length, get_or, drop, replicate}
use Rattle.lists.specs.Gather.{gathered, each, passing}
use Rattle.lists.proofs.Gather.{length_each, each_head, each_get_or}
use Rattle.rules.specs.Mesh.{Side, other}
use Rattle.rules.specs.Meetings.{Scene, net_of}
use Rattle.rules.specs.Inside.{point_inside}
use Rattle.rules.specs.Operations.{Piece, keeps, pieces_of, piece_at, piece_with, lies_inside, kept, kept_with}
use Rattle.rules.specs.Refusals.{Event, piece}
use Rattle.pieces.specs.Pieces.{keep_of, is_kept, events}
use Rattle.pieces.proofs.Kept.{kept_by}

module _ {A B : Type 0} (g : A → B) where
  map_each : (n : ℕ) (f : ℕ → A) → map g (each n f) ≡ each n (λ i. g (f i))
  unfolding gathered
  map_each zero f = refl
  map_each (suc n) f = map-append g (each n f) (f n ∷ []) ∙ ap (λ (l : List B). l ++ g (f n) ∷ []) (map_each n f)

  passing_map : (f : B → Bool) (xs : List A) → map g (passing (λ x. f (g x)) xs) ≡ passing f (map g xs)
  unfolding passing
  passing_map f [] = refl
  passing_map f (x ∷ xs) = go (f (g x)) (passing_map f xs)
    where
      go : (t : Bool) → map g (passing (λ y. f (g y)) xs) ≡ passing f (map g xs)
          → (let l : List A = elim t [ true ↦ x ∷ passing (λ y. f (g y)) xs | false ↦ passing (λ y. f (g y)) xs ] in
          let r : List B = elim t [ true ↦ g x ∷ passing f (map g xs) | false ↦ passing f (map g xs) ] in
          map g l ≡ r)
      go true ih = ap (λ (l : List B). g x ∷ l) ih
      go false ih = ih

passing_same : {A : Type 0} (f g : A → Bool) → ((x : A) → f x ≡ g x) → (xs : List A) → passing f xs ≡ passing g xs
unfolding passing
passing_same f g h [] = refl
passing_same f g h (x ∷ xs) = ap₂ (λ (t : Bool) (l : List _). elim t [ true ↦ x ∷ l | false ↦ l ]) (h x) (passing_same f g h xs)

-- a number that all of them have
module _ {A : Type 0} (g : A → ℕ) (v : ℕ) where
  each_alike : (n : ℕ) (f : ℕ → A) → ((i : ℕ) → g (f i) ≡ v) → map g (each n f) ≡ replicate n v
  unfolding gathered
  each_alike zero f h = refl
  each_alike (suc n) f h = ap (map g) (each_head n f) ∙ ap₂ (λ (x : ℕ) (l : List ℕ). x ∷ l) (h zero) (each_alike n (λ i. f (suc i)) (λ i. h (suc i)))

  passing_alike : (f : A → Bool) (xs : List A) → map g xs ≡ replicate (length xs) v → map g (passing f xs) ≡ replicate (length (passing f xs)) v
  unfolding passing
  passing_alike f [] e = refl
  passing_alike f (x ∷ xs) e = go (f x) (passing_alike f xs (ap (drop 1) e))
    where
      go : (t : Bool) → map g (passing f xs) ≡ replicate (length (passing f xs)) v
          → (let l : List A = elim t [ true ↦ x ∷ passing f xs | false ↦ passing f xs ] in map g l ≡ replicate (length l) v)
      go true ih = ap₂ (λ (y : ℕ) (l : List ℕ). y ∷ l) (ap (λ (l : List ℕ). get_or l 0 0) e) ih
      go false ih = ih

module _ (sc : Scene) (op : ℕ) (w : Side) (i : ℕ) where
  abbrev all : List Piece
  all = each (length (pieces_of sc w i)) (piece_at sc w i)

  -- the corners of the pieces of cell i that the operation keeps
  pub kept_nodes : map (λ p. p.nodes) (kept sc w op i) ≡ passing (is_kept (keep_of op w) sc.coords (net_of sc (other w)).cells) (pieces_of sc w i)
  unfolding kept_with lies_inside piece_with
  kept_nodes =
      let ps : List (List ℕ) = pieces_of sc w i in
      let f : List ℕ → Bool = λ q. keeps op w (point_inside sc.coords (net_of sc (other w)).cells q) in
      passing_map (λ (p : Piece). p.nodes) f all ∙ ap (passing f) (map_each (λ (p : Piece). p.nodes) (length ps) (piece_at sc w i) ∙ each_get_or ps [])
      ∙ passing_same f (is_kept (keep_of op w) sc.coords (net_of sc (other w)).cells) (λ q. sym (kept_by op w (point_inside sc.coords (net_of sc (other w)).cells q))) ps

  -- a number that all pieces of cell i have
  pub kept_alike : (g : Piece → ℕ) (v : ℕ) → ((j : ℕ) → g (piece_at sc w i j) ≡ v) → map g (kept sc w op i) ≡ replicate (length (kept sc w op i)) v
  unfolding kept_with
  kept_alike g v h =
      let n : ℕ = length (pieces_of sc w i) in
      passing_alike g v (λ p. keeps op w (lies_inside sc w p)) all
      (each_alike g v n (piece_at sc w i) h ∙ ap (λ (k : ℕ). replicate k v) (sym (length_each n (piece_at sc w i))))

-- the events of placing them
pub events_nodes : (ps : List Piece) → map (λ p. piece (length p.nodes)) ps ≡ events (map (λ p. p.nodes) ps)
events_nodes [] = refl
events_nodes (p ∷ ps) = ap (λ (es : List Event). piece (length p.nodes) ∷ es) (events_nodes ps)
