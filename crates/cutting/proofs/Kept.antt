-- What each step of a walk keeps. A walk that ends uses each edge of the outline once, its reverse never, and any other edge as often as its reverse, at most
-- once, unless the table names a neighbour twice at a node.
-- Assumes nothing.
use mathlib.Core.Path.{◌≡◌, refl, sym, ap, ◌∙◌, subst, ap₂}
use mathlib.Core.Bool.{Bool, true, false, ◌&&◌, and-true, and-false, not}
use mathlib.Core.List.{List, [], ◌∷◌, ◌++◌}
use Prim.Native.Nat.{ℕ, suc, ◌+◌, ◌≤◌, ◌<◌}
use native.Mathlib.Omega.{arith}
use lib.ListN.{length, get_or, set, length-set}
use lib.Seq.{get_or-set_same, get_or-set_other}
use Rattle.lists.specs.Search.{bit, many}
use Rattle.lists.proofs.Search.{many_change, many_le, many_less, first_hit}
use Rattle.cutting.specs.Edges.{Edge, hops, ring, rings, hit, times}
use Rattle.cutting.proofs.Rounds.{next_open_open, next_open_at}
use Rattle.cutting.proofs.EdgeLaws.{end, both, hit_back, end_snoc, times_snoc, rings_snoc}
use Rattle.cutting.specs.Walk.{State, state, Phase, resting, on_slot, Next, more, closed, stuck, broken, walk_steps, next_open, slot, leads}
use Rattle.cutting.proofs.Ways.{reverse_of, Way, ends, missing, passes, begins, lost, closes, goes, stops, Led, steps_keep}

pub bit_and : (s t : Bool) → bit (s && t) ≤ bit s
bit_and true true = omega arith
bit_and true false = omega arith
bit_and false t = omega arith

module _ (n : ℕ) (src dst : List ℕ) where
  -- how many unmarked slots lead from a to b
  unfoldable pub free : ℕ → ℕ → List Bool → ℕ
  free a b marks = many (λ i. leads src dst a b i && not (get_or marks i false)) n

  -- how many slots lead from a to b
  unfoldable pub named : ℕ → ℕ → ℕ
  named a b = many (leads src dst a b) n

  -- how many slots of a list lead from a to b
  unfoldable pub on : ℕ → ℕ → List ℕ → ℕ
  on a b [] = 0
  on a b (i ∷ is) = bit (leads src dst a b i) + on a b is

  -- marking a slot takes it from the unmarked ones
  free_mark : (a b : ℕ) (marks : List Bool) (i : ℕ) → i < n → n ≤ length marks → get_or marks i false ≡ false → free a b marks ≡ bit (leads src dst a b i) + free a b (set marks i true)
  unfolding free
  free_mark a b marks i h l e =
      let gone = many_change (λ k. leads src dst a b k && not (get_or marks k false)) (λ k. leads src dst a b k && not (get_or (set marks i true) k false)) i n h
      (λ k ne. ap (λ (v : Bool). leads src dst a b k && not v) (sym (get_or-set_other marks i k true false ne)))
      (ap (λ (v : Bool). leads src dst a b i && not v) (get_or-set_same marks i true false (omega arith)) ∙ and-false (leads src dst a b i)) in
      omega (arith, ap (λ (v : Bool). bit (leads src dst a b i && not v)) e, ap bit (and-true (leads src dst a b i)))

  -- a marked slot is none of the unmarked ones
  free_marked : (a b : ℕ) (marks : List Bool) (i : ℕ) → i < n → get_or marks i false ≡ true → bit (leads src dst a b i) + free a b marks ≤ named a b
  unfolding free named
  free_marked a b marks i h e = pick (leads src dst a b i) refl
    where
      open_slot : ℕ → Bool
      open_slot k = leads src dst a b k && not (get_or marks k false)

      less : (k : ℕ) → bit (open_slot k) ≤ bit (leads src dst a b k)
      less k = bit_and (leads src dst a b k) (not (get_or marks k false))

      pick : (t : Bool) → leads src dst a b i ≡ t → bit t + many open_slot n ≤ many (leads src dst a b) n
      pick true l = omega (arith, many_less (leads src dst a b) open_slot i n h less (ap (λ (t : Bool). leads src dst a b i && not t) e ∙ and-false (leads src dst a b i)) l)
      pick false l = omega (arith, many_le (leads src dst a b) open_slot n less)

  -- what the search finds
  pub slot_hit : (a b : ℕ) → slot n src dst a b < n → (get_or src (slot n src dst a b) 0 ≡ a) × (get_or dst (slot n src dst a b) 0 ≡ b)
  unfolding slot
  slot_hit a b h =
      both (get_or src (slot n src dst a b) 0) a (get_or dst (slot n src dst a b) 0) b (first_hit (leads src dst a b) 0 n h)

  -- how often the darts walked so far lead from a to b
  abbrev pub walked : ℕ → ℕ → List (List ℕ) → Phase → ℕ
  walked a b done resting = times a b (rings done)
  walked a b done (on_slot start mid i) = times a b (rings done) + times a b (hops start mid)

  -- how many slots that are still to be tried lead from a to b
  abbrev pub due : ℕ → ℕ → List ℕ → Phase → ℕ
  due a b heap resting = on a b heap
  due a b heap (on_slot start mid i) = bit (leads src dst a b i) + on a b heap

  abbrev pub Stands : List Bool → Phase → Type 0
  Stands marks resting = Unit {0}
  Stands marks (on_slot start mid i) = (i < n) × (get_or marks i false ≡ false) × (end start mid ≡ get_or src i 0)

  -- the reverse slot leads back
  back_hit : (i r : ℕ) → get_or src r 0 ≡ get_or dst i 0 → get_or dst r 0 ≡ get_or src i 0 → (a b : ℕ) → bit (leads src dst a b r) ≡ bit (leads src dst b a i)
  back_hit i r e e' a b = ap₂ (λ x y. hit a b x y) e e' ∙ hit_back a b (get_or dst i 0) (get_or src i 0)

  -- the darts of a path, with the dart i after them
  path_hit : (start : ℕ) (mid : List ℕ) (i y : ℕ) → end start mid ≡ get_or src i 0 → get_or dst i 0 ≡ y → (a b : ℕ)
      → times a b (hops start (mid ++ y ∷ [])) ≡ times a b (hops start mid) + bit (leads src dst a b i)
  path_hit start mid i y e e' a b = omega (arith, times_snoc a b start mid y, ap₂ (λ x z. hit a b x z) e (sym e'))

  -- what holds of a walk, for the edge from a to b and its reverse: f and f' are their unmarked slots at start, o and o' how often the outline has them
  module _ (a b f f' o o' : ℕ) where
    pub record Kept (marks : List Bool) (heap : List ℕ) (done : List (List ℕ)) (phase : Phase) : Type 0 where
      pub long : n ≤ length marks
      pub stands : Stands marks phase
      pub all : free a b marks + walked a b done phase ≡ f
      pub all' : free b a marks + walked b a done phase ≡ f'
      pub left : walked b a done phase + o + free a b marks ≤ 1 + due a b heap phase
      pub left' : walked a b done phase + o' + free b a marks ≤ 1 + due b a heap phase

    -- what holds of the pieces
    pub record Balanced (ps : List (List ℕ)) : Type 0 where
      pub once : times a b (rings ps) ≤ 1
      pub once' : times b a (rings ps) ≤ 1
      pub even : times a b (rings ps) + o' ≡ times b a (rings ps) + o

    abbrev Keeps : ℕ → State → Type 0
    Keeps k s = Kept s.marks s.heap s.done s.phase

    abbrev Comes : Next → Type 0
    Comes (more s) = Unit {0}
    Comes (closed ps) = Balanced ps
    Comes stuck = Unit {0}
    Comes broken = Unit {0}

    module _ (turning : Bool) (one : f + o' ≤ 1) (same : f + o' ≡ f' + o) (single : named a b ≤ 1) (single' : named b a ≤ 1) where
      step_keeps : (m : ℕ) {s : State} {t : Next} → Way turning n src dst s t → Keeps (suc m) s → Led Keeps Comes m t
      unfolding on times hops end ring
      step_keeps m ends k = record { once = omega arith; once' = omega arith; even = omega arith }
      step_keeps m (missing h) k = tt
      step_keeps m (passes {marks = marks} {i = i} i< e) k = record {
        long = k.long;
        stands = tt;
        all = k.all;
        all' = k.all';
        left = omega (arith, free_marked a b marks i i< e);
        left' = omega (arith, free_marked b a marks i i< e);
      }
      step_keeps m (begins i< e) k = record {
        long = k.long;
        stands = (i<, e, refl);
        all = omega arith;
        all' = omega arith;
        left = omega arith;
        left' = omega arith;
      }
      step_keeps m (lost h) k = tt
      step_keeps m (closes {marks = marks} {done = done} {start = start} {i = i} {mid = mid} r< back) k =
          let r = reverse_of n src dst i in
          let at = slot_hit (get_or dst i 0) (get_or src i 0) r< in
          let len = length-set marks i true in
          let fm = free_mark a b marks i k.stands.0 k.long k.stands.1 in
          let fm' = free_mark b a marks i k.stands.0 k.long k.stands.1 in
          let p = path_hit start mid i start k.stands.2 back a b in
          let p' = path_hit start mid i start k.stands.2 back b a in
          let s = rings_snoc a b done (start ∷ mid) in
          let s' = rings_snoc b a done (start ∷ mid) in
          let q = back_hit i r at.0 at.1 a b in
          let q' = back_hit i r at.0 at.1 b a in
          record {
            long = omega (arith, k.long);
            stands = tt;
            all = omega (arith, k.all);
            all' = omega (arith, k.all');
            left = omega (arith, k.left);
            left' = omega (arith, k.left');
          }
      step_keeps m (goes {marks = marks} {start = start} {i = i} {mid = mid} r< apart {j = j} found j<) k =
          let r = reverse_of n src dst i in
          let y = get_or dst i 0 in
          let at = slot_hit y (get_or src i 0) r< in
          let j<' : next_open turning n src (set marks i true) y r < n = subst (λ (x : ℕ). x < n) found j< in
          let open_j : get_or (set marks i true) j false ≡ false = ap (λ (x : ℕ). get_or (set marks i true) x false) found ∙ next_open_open turning n src (set marks i true) y r j<' in
          let at_j : get_or src j 0 ≡ y = ap (λ (x : ℕ). get_or src x 0) found ∙ next_open_at turning n src (set marks i true) y r at.0 j<' in
          let len = length-set marks i true in
          let fm = free_mark a b marks i k.stands.0 k.long k.stands.1 in
          let fm' = free_mark b a marks i k.stands.0 k.long k.stands.1 in
          let p = path_hit start mid i y k.stands.2 refl a b in
          let p' = path_hit start mid i y k.stands.2 refl b a in
          let q = back_hit i r at.0 at.1 a b in
          let q' = back_hit i r at.0 at.1 b a in
          record {
            long = omega (arith, k.long);
            stands = (j<, open_j, end_snoc start mid y ∙ sym at_j);
            all = omega (arith, k.all);
            all' = omega (arith, k.all');
            left = omega (arith, k.left);
            left' = omega (arith, k.left');
          }
      step_keeps m (stops r< apart none) k = tt

      pub walk_balances : (m : ℕ) (s : State) → Keeps m s → Comes (walk_steps turning n src dst m s)
      walk_balances = steps_keep turning n src dst Keeps Comes (λ k s t w h. step_keeps k w h) (λ s k. tt)

  -- the theorem for any table: marks stand at the reverses of the outline's edges alone, the heap has a slot for each edge of the outline, and no neighbour is named twice
  pub close : (turning : Bool) (marks : List Bool) (heap : List ℕ) (outline : List Edge) → n ≤ length marks → ((a b : ℕ) → named a b ≤ 1)
      → ((a b : ℕ) → free a b marks + times b a outline ≡ named a b) → ((a b : ℕ) → named a b ≡ named b a) → ((a b : ℕ) → on a b heap ≡ times a b outline)
      → (m : ℕ) (ps : List (List ℕ)) → walk_steps turning n src dst m (state marks heap [] resting) ≡ closed ps → (a b : ℕ)
      → (times a b (rings ps) ≤ 1) × (times a b (rings ps) + times b a outline ≡ times b a (rings ps) + times a b outline)
  unfolding times rings
  close turning marks heap outline long single marked sym-named starts m ps e a b =
      let fab = free a b marks in
      let fba = free b a marks in
      let o = times a b outline in
      let o' = times b a outline in
      let start : Keeps a b fab fba o o' m (state marks heap [] resting) = record {
        long = long;
        stands = tt;
        all = omega arith;
        all' = omega arith;
        left = omega (arith, starts a b, marked a b, single a b);
        left' = omega (arith, starts b a, marked b a, single b a);
      } in
      let fine : Balanced a b fab fba o o' ps = subst (Comes a b fab fba o o') e
      (walk_balances a b fab fba o o' turning (omega (arith, marked a b, single a b)) (omega (arith, marked a b, marked b a, sym-named a b)) (single a b)
      (single b a) m (state marks heap [] resting) start) in
      (fine.once, fine.even)
