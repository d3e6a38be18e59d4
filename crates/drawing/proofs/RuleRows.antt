-- Which drawn lines are rules, on a canvas that is `Lined`: a line that bears `=` (`flat-rule`), line 0 (`flat-first-rule`), and no other
-- (`flat-no-rule`). `edge_byte-plus`, `edge_byte-other` and `edge_byte-corner` give the bytes of a line that no box runs through.
use Prim.Native.Nat.{ℕ, zero, suc, ◌+◌, ◌-◌, ◌≤◌, ◌<◌}
use mathlib.Core.Path.{◌≡◌, refl, sym, ap, subst, ◌∙◌}
use mathlib.Core.Bool.{Bool, true, false, ◌&&◌, ◌||◌, cond}
use mathlib.Core.Logic.{◌⊎◌, inl, inr, ⊎_elim}
use mathlib.Core.List.{List, [], ◌∷◌, map, flat_map, Memᴰ}
use native.Mathlib.Omega.{arith}
use native.Mathlib.Nat.{le_refl}
use lib.Dec.{eqb}
use borrow.Author.Tests.{eqb-true, eqb-false, ne_eqb}
use lib.ListN.{length}
use Rattle.seq.specs.Lists.{range, up_to, any}
use Rattle.seq.proofs.Tests.{true-not-false, bool_cases, cond_either, bool-refused, or_cases}
use Rattle.seq.proofs.Walks.{or-false}
use Rattle.text.specs.Characters.{space, plus, colon}
use Rattle.text.specs.Rule.{is_rule}
use Rattle.text.proofs.RuleBytes.{Ruling, rule-of-bytes, second-no-rule}
use Rattle.grid.specs.Slots.{dash, equals}
use Rattle.drawing.specs.Plain.{Box, Canvas, canvas_width, canvas_height, corner_at, horizontal_at, vertical_at, alignment_row, draws_colon, colon_at, border_byte, inner_line, put_down}
use Rattle.drawing.proofs.BoxLaws.{Within, Tiled, border, End, corner_at-box, horizontal_at-box, vertical_at-box, box-at, border-or-inside}
use Rattle.drawing.proofs.RowLaws.{Written, edge_byte, put_down-border, put_down-inside, flat, flat-next, border-first}

-- a side of a box
abbrev pub Side : Box → ℕ → Type 0
Side b x = End b.frame.left b.frame.right x

-- is a colon drawn at column x of the alignment line
abbrev pub colon_in : Canvas → ℕ → Bool
colon_in v x = any (draws_colon v x) (up_to (length v.columns))

-- a colon on the alignment line stands at an end of a segment that is at least 3 wide
pub record Colon (v : Canvas) (z : ℕ) : Type 0 where
  pub from_corner : ℕ
  pub to_corner : ℕ
  pub starts : corner_at v (alignment_row v) from_corner ≡ true
  pub stops : corner_at v (alignment_row v) to_corner ≡ true
  pub roomy : from_corner + 4 ≤ to_corner
  pub between : (w : ℕ) → from_corner < w → w < to_corner → corner_at v (alignment_row v) w ≡ false
  pub place : (z ≡ from_corner + 1) ⊎ (z + 1 ≡ to_corner)

-- what a canvas needs so that its lines are read as they were meant
pub record Lined (v : Canvas) : Type 0 where
  pub written : Written v
  pub spaced : (b c : Box) → Memᴰ b v.boxes → Memᴰ c v.boxes → (x z : ℕ) → Side b x → Side c z → x < z → x + 1 < z
  pub clear : (y : ℕ) → any (eqb y) v.rules ≡ true → (b : Box) → Memᴰ b v.boxes → b.frame.top < y → y < b.frame.bottom → ⊥
  pub colons : (z : ℕ) → colon_in v z ≡ true → Colon v z
  pub aligned : (alignment_row v ≡ 0) ⊎ (any (eqb (alignment_row v)) v.rules ≡ true)

module _ {v : Canvas} (L : Lined v) where
  P : Tiled v
  P = L.written.tiled

  -- two corners of a line are never side by side
  pub corners-apart : (y x : ℕ) → corner_at v y x ≡ true → corner_at v y (x + 1) ≡ false
  corners-apart y x h =
      bool-refused (corner_at v y (x + 1))
      (λ k.
      let b = corner_at-box v y x h in
      let c = corner_at-box v y (x + 1) k in
      let w = L.spaced b.0 c.0 b.1 c.1 x (x + 1) b.3 c.3 (omega arith) in
      omega arith)

  -- a line that no box runs through
  abbrev Clear : ℕ → Type 0
  Clear y = (b : Box) → Memᴰ b v.boxes → b.frame.top < y → y < b.frame.bottom → ⊥

  clear-border : (y : ℕ) → y < canvas_height v → Clear y → (x : ℕ) → x < canvas_width v → border v y x ≡ true
  clear-border y u c x w = ⊎_elim (λ h. h) (λ t. absurd (c t.0 t.1 t.2.top t.2.bottom)) (border-or-inside P y x u w)

  clear-vertical : (y x : ℕ) → Clear y → vertical_at v y x ≡ false
  clear-vertical y x c = bool-refused (vertical_at v y x) (λ h. let t = vertical_at-box v y x h in c t.0 t.1 t.3 t.4)

  pub flat-clear : (o y : ℕ) → y < canvas_height v → Clear y → (n a : ℕ) → a + n ≤ canvas_width v → flat o v y a n ≡ map (edge_byte v y) (range a n)
  unfolding flat flat_map range
  flat-clear o y u c zero a l = refl
  flat-clear o y u c (suc n) a l =
      rw (put_down-border o v y a (clear-border y u c a (omega arith))) (ap (λ (t : List ℕ). edge_byte v y a ∷ t) (flat-clear o y u c n (a + 1) (omega arith)))

  -- what stands at a column of such a line
  pub edge_byte-plus : (y x : ℕ) → corner_at v y x ≡ true → edge_byte v y x ≡ plus
  unfolding edge_byte
  edge_byte-plus y x h = rw h

  pub fill_of : ℕ → ℕ
  fill_of y = cond (any (eqb y) v.rules) equals dash

  pub edge_byte-other : (y x : ℕ) → y < canvas_height v → Clear y → x < canvas_width v → corner_at v y x ≡ false
      → edge_byte v y x ≡ cond (eqb y (alignment_row v) && colon_in v x) colon (fill_of y)
  unfolding edge_byte border_byte colon_at fill_of border
  edge_byte-other y x u c w h =
      let across : horizontal_at v y x ≡ true = sym (or-false (horizontal_at v y x)) ∙ rw (h, clear-vertical y x c) at (clear-border y u c x w) in
      rw (h, across)

  abbrev Not : ℕ → ℕ → Type 0
  Not b n = n ≡ b → ⊥

  pub edge_byte-corner : (y x : ℕ) → edge_byte v y x ≡ plus → corner_at v y x ≡ true
  unfolding edge_byte border_byte
  edge_byte-corner y x e =
      ⊎_elim (λ h. h)
      (λ h.
      absurd
      (cond_either (Not plus) (horizontal_at v y x)
      (cond_either (Not plus) (colon_at v y x) (λ q. omega arith) (cond_either (Not plus) (any (eqb y) v.rules) (λ q. omega arith) (λ q. omega arith))) (λ q. omega arith) (rw h at e)))
      (bool_cases (corner_at v y x))

  pub fill_of-other : (y : ℕ) → (fill_of y ≡ plus → ⊥) × (fill_of y ≡ colon → ⊥)
  unfolding fill_of
  fill_of-other y = (
    cond_either (Not plus) (any (eqb y) v.rules) (λ q. omega arith) (λ q. omega arith),
    cond_either (Not colon) (any (eqb y) v.rules) (λ q. omega arith) (λ q. omega arith),
  )

  module _ (y : ℕ) (u : y < canvas_height v) (c : Clear y) where
    edge_byte-colon : (x : ℕ) → x < canvas_width v → edge_byte v y x ≡ colon → (y ≡ alignment_row v) × Colon v x
    edge_byte-colon x w e =
        ⊎_elim (λ h. absurd (omega (arith, edge_byte-plus y x h)))
        (λ h. go (eqb y (alignment_row v)) (colon_in v x) refl refl (sym (edge_byte-other y x u c w h) ∙ e))
        (bool_cases (corner_at v y x)) where
          go : (s t : Bool) → eqb y (alignment_row v) ≡ s → colon_in v x ≡ t → cond (s && t) colon (fill_of y) ≡ colon → (y ≡ alignment_row v) × Colon v x
          go true true p q k = (eqb-true _ _ p, L.colons x q)
          go true false p q k = absurd ((fill_of-other y).1 k)
          go false t p q k = absurd ((fill_of-other y).1 k)

    -- neither a corner nor a colon: the fill
    edge_byte-fill : (x : ℕ) → x < canvas_width v → (edge_byte v y x ≡ plus → ⊥) → (edge_byte v y x ≡ colon → ⊥) → edge_byte v y x ≡ fill_of y
    edge_byte-fill x w p q =
        ⊎_elim (λ h. absurd (p (edge_byte-plus y x h)))
        (λ h. go (eqb y (alignment_row v) && colon_in v x) (edge_byte-other y x u c w h)) (bool_cases (corner_at v y x)) where
          go : (t : Bool) → edge_byte v y x ≡ cond t colon (fill_of y) → edge_byte v y x ≡ fill_of y
          go true e = absurd (q e)
          go false e = e

    three : (x : ℕ) → x < canvas_width v → (edge_byte v y x ≡ fill_of y) ⊎ ((edge_byte v y x ≡ colon) ⊎ (edge_byte v y x ≡ plus))
    three x w =
        ⊎_elim (λ e. inr (inr (eqb-true _ _ e)))
        (λ e. ⊎_elim (λ d. inr (inl (eqb-true _ _ d))) (λ d. inl (edge_byte-fill x w (eqb-false _ _ e) (eqb-false _ _ d))) (bool_cases (eqb (edge_byte v y x) colon)))
        (bool_cases (eqb (edge_byte v y x) plus))

    end-corner : (x : ℕ) → x < canvas_width v → (x ≡ 0) ⊎ (x + 1 ≡ canvas_width v) → corner_at v y x ≡ true
    unfolding border
    end-corner x w d =
        ⊎_elim (λ h. ⊎_elim (λ k. k) (λ k. absurd (not-across k)) (or_cases (corner_at v y x) (horizontal_at v y x) h))
        (λ h. absurd (true-not-false (sym h ∙ clear-vertical y x c)))
        (or_cases (corner_at v y x || horizontal_at v y x) (vertical_at v y x) (clear-border y u c x w)) where
          not-across : horizontal_at v y x ≡ true → ⊥
          not-across k =
              let t = horizontal_at-box v y x k in
              ⊎_elim (λ e. omega (arith, t.3)) (λ e. omega (arith, t.4, (P.sized t.0 t.1).near)) d

    clash : {C : Bool} → C ≡ true → C ≡ false → ⊥
    clash p q = true-not-false (sym p ∙ q)

    after_open : (x : ℕ) → x + 1 + 1 < canvas_width v → edge_byte v y x ≡ plus → (y ≡ alignment_row v) × Colon v (x + 1) → edge_byte v y (x + 1 + 1) ≡ fill_of y
    after_open x w e (a, C) = ⊎_elim at-start at-stop C.place where
      at-stop : x + 1 + 1 ≡ C.to_corner → edge_byte v y (x + 1 + 1) ≡ fill_of y
      at-stop q = absurd (clash (edge_byte-corner y x e) (rw a (C.between x (omega (arith, C.roomy)) (omega arith))))

      at-start : x + 1 ≡ C.from_corner + 1 → edge_byte v y (x + 1 + 1) ≡ fill_of y
      at-start q =
          edge_byte-fill (x + 1 + 1) w (λ h. clash (edge_byte-corner y (x + 1 + 1) h) (rw a (C.between (x + 1 + 1) (omega arith) (omega (arith, C.roomy)))))
          (λ h.
          let D = (edge_byte-colon (x + 1 + 1) w h).1 in
          ⊎_elim (λ (k : x + 1 + 1 ≡ D.from_corner + 1). clash D.starts (C.between D.from_corner (omega arith) (omega (arith, C.roomy))))
          (λ (k : x + 1 + 1 + 1 ≡ D.to_corner). clash D.stops (C.between D.to_corner (omega arith) (omega (arith, C.roomy)))) D.place)

    after-close : (x : ℕ) → edge_byte v y x ≡ fill_of y → (y ≡ alignment_row v) × Colon v (x + 1) → edge_byte v y (x + 1 + 1) ≡ plus
    after-close x e (a, C) =
        ⊎_elim
        (λ (q : x + 1 ≡ C.from_corner + 1). absurd ((fill_of-other y).0 (sym e ∙ edge_byte-plus y x (rw a (let z : C.from_corner ≡ x = omega arith in rw z at C.starts)))))
        (λ (q : x + 1 + 1 ≡ C.to_corner). edge_byte-plus y (x + 1 + 1) (rw (a, q) C.stops)) C.place

    ruling : Ruling (fill_of y) (fill_of-other y).0 (fill_of-other y).1 (edge_byte v y) (canvas_width v)
    ruling =
        record {
          begins = edge_byte-plus y 0 (end-corner 0 (omega (arith, P.two_columns)) (inl refl));
          ends = edge_byte-plus y (canvas_width v - 1) (end-corner (canvas_width v - 1) (omega (arith, P.two_columns)) (inr (omega (arith, P.two_columns))));
          after_plus = λ x w e. ⊎_elim (λ h. inl h) (λ h. ⊎_elim (λ k. inr k) (λ k. absurd (clash (edge_byte-corner y (x + 1) k) (corners-apart y x (edge_byte-corner y x e)))) h) (three (x + 1) w);
          after-fill = λ x w e. three (x + 1) w;
          after-opening = λ x w e d. after_open x w e (edge_byte-colon (x + 1) (omega arith) d);
          after-closing = λ x w e d. after-close x e (edge_byte-colon (x + 1) (omega arith) d);
        }

    line-ruled : (o : ℕ) → is_rule (fill_of y) (flat o v y 0 (canvas_width v)) ≡ true
    line-ruled o =
        rw (flat-clear o y u c (canvas_width v) 0 (omega arith))
        (rule-of-bytes (fill_of y) (fill_of-other y).0 (fill_of-other y).1 (edge_byte v y) (canvas_width v) ruling (omega (arith, P.two_columns)))

  pub flat-rule : (o y : ℕ) → y < canvas_height v → any (eqb y) v.rules ≡ true → is_rule equals (flat o v y 0 (canvas_width v)) ≡ true
  unfolding fill_of
  flat-rule o y u h =
      let e : fill_of y ≡ equals = rw h in
      subst (λ (k : ℕ). is_rule k (flat o v y 0 (canvas_width v)) ≡ true) e (line-ruled y u (L.clear y h) o)

  clear_zero : Clear 0
  clear_zero b m p q = omega arith

  low-zero : 0 < canvas_height v
  low-zero = omega (arith, P.two_lines)

  pub flat-first-rule : (o : ℕ) → any (eqb 0) v.rules ≡ false → is_rule dash (flat o v 0 0 (canvas_width v)) ≡ true
  unfolding fill_of
  flat-first-rule o h =
      let e : fill_of 0 ≡ dash = rw h in
      subst (λ (k : ℕ). is_rule k (flat o v 0 0 (canvas_width v)) ≡ true) e (line-ruled 0 low-zero clear_zero o)

  -- column 1 is no column line
  not-one : (b : Box) → Memᴰ b v.boxes → Side b 1 → ⊥
  not-one b m d =
      let k = box-at P 0 0 (omega (arith, P.two_lines)) (omega (arith, P.two_columns)) in
      let w = L.spaced k.0 b k.1 m 0 1 (inl (omega (arith, k.2.after))) d (le_refl 1) in
      omega arith

  three-columns : 2 < canvas_width v
  three-columns =
      let k = box-at P 0 0 (omega (arith, P.two_lines)) (omega (arith, P.two_columns)) in
      let s = P.sized k.0 k.1 in
      omega (arith, s.broad, s.near)

  -- the second byte of a line that is neither a rule's nor line 0
  module _ (o y : ℕ) (u : y < canvas_height v) (n : y ≡ 0 → ⊥) (h : any (eqb y) v.rules ≡ false) where
    not_aligned : eqb y (alignment_row v) ≡ false
    not_aligned = ne_eqb _ _ (λ e. ⊎_elim (λ z. n (e ∙ z)) (λ z. true-not-false (sym (rw (← e) at z) ∙ h)) L.aligned)

    no-corner : corner_at v y 1 ≡ false
    no-corner = bool-refused (corner_at v y 1) (λ k. let t = corner_at-box v y 1 k in not-one t.0 t.1 t.3)

    no-vertical : vertical_at v y 1 ≡ false
    no-vertical = bool-refused (vertical_at v y 1) (λ k. let t = vertical_at-box v y 1 k in not-one t.0 t.1 t.2)

    second : (r : List ℕ) × ((put_down o v y 1 ≡ dash ∷ r) ⊎ (put_down o v y 1 ≡ space ∷ r))
    unfolding edge_byte border_byte colon_at border inner_line
    second = ⊎_elim on-border inner (border-or-inside P y 1 u (omega (arith, three-columns))) where
      on-border : border v y 1 ≡ true → (r : List ℕ) × ((put_down o v y 1 ≡ dash ∷ r) ⊎ (put_down o v y 1 ≡ space ∷ r))
      on-border e =
          let across : horizontal_at v y 1 ≡ true = sym (or-false (horizontal_at v y 1)) ∙ rw (no-corner, no-vertical) at e in
          ([], inl (put_down-border o v y 1 e ∙ rw (no-corner, across, not_aligned, h)))

      inner : (b : Box) × Memᴰ b v.boxes × Within b y 1 → (r : List ℕ) × ((put_down o v y 1 ≡ dash ∷ r) ⊎ (put_down o v y 1 ≡ space ∷ r))
      inner (b, m, w) =
          let e : b.frame.left + 1 ≡ 1 = omega (arith, w.left) in
          (_, inr (rw e at (put_down-inside P o m y w.top w.bottom 1 w.left w.right)))

    pub flat-no-rule : is_rule equals (flat o v y 0 (canvas_width v)) ≡ false
    flat-no-rule =
        let e : canvas_width v ≡ suc (suc (canvas_width v - 2)) = omega (arith, three-columns) in
        let k = border-first L.written o y u in
        rw e
        (rw (flat-next o v y 0 (suc (canvas_width v - 2)), put_down-border o v y 0 k, flat-next o v y (0 + 1) (canvas_width v - 2))
        (⊎_elim (λ q. rw q (second-no-rule equals dash (λ z. omega arith) (λ z. omega arith) (λ z. omega arith) _ _))
        (λ q. rw q (second-no-rule equals space (λ z. omega arith) (λ z. omega arith) (λ z. omega arith) _ _)) second.1))
