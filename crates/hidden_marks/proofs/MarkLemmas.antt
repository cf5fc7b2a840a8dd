-- Which characters are hidden, and how long their marks are.
use Rattle.std.proofs.Common.{◌≡◌, ℕ, ◌<◌, ◌≤◌, List, [], ◌∷◌, Bool, true, false, leb-true, ltb-true, refl, sym, inl, inr, arith}
use Rattle.std.proofs.lemmas.Bool.Decides.{nat_tests}
use Rattle.std.proofs.lemmas.Bool.{and_parts}
use Rattle.std.specs.Bool.{beq}
use Rattle.std.specs.List.{list_all}
use Rattle.std.specs.Prelude.{◌&&◌, ◌||◌, ◌==◌, ◌⊎◌, nat_le, nat_lt}
use Rattle.ucd_derived.proofs.BinaryLemmas.{is_default_ignorable_code_point_stepped}
use Rattle.ucd_derived.proofs.Computing.{ucd_derived}
use Rattle.ucd_derived.specs.Binary.{is_default_ignorable_code_point}
use Rattle.ucd_derived.specs.DefaultIgnorableCodePointRanges.{default_ignorable_code_point_ranges}
use Rattle.ucd_table.proofs.Facts.{Stepped-below, same_from_beq}
use Rattle.ucd_table.specs.Rows.{Range, in_ranges}
use Rattle.hidden_marks.specs.Marks.{is_annotation, is_control, is_hidden, is_invisible, is_marked, is_separator}

-- ---- tests that are joined by `||`

pub neither : (a b : Bool) → a ≡ false → b ≡ false → (a || b) ≡ false
neither true b h k = h
neither false b h k = k

pub either : (a b : Bool) → (a || b) ≡ true → (a ≡ true) ⊎ (b ≡ true)
either true b h = inl refl
either false b h = inr h

only_first : (a b d : Bool) → b ≡ false → d ≡ false → (a || b || d) ≡ a
only_first true b d h k = refl
only_first false b d h k = neither b d h k

-- ---- what Unicode says of them

-- no character of ASCII is ignorable
pub ascii_is_shown : (c : ℕ) → c < 128 → is_default_ignorable_code_point c ≡ false
unfolding ucd_derived
ascii_is_shown c small =
    same_from_beq _ _ (Stepped-below is_default_ignorable_code_point is_default_ignorable_code_point_stepped (λ x v. beq v false) 128 refl c small)

ranges_below : (bound : ℕ) (rs : List Range) (c : ℕ) → list_all (λ r. nat_lt r.1 bound) rs ≡ true → in_ranges rs c ≡ true → c < bound
unfolding in_ranges
ranges_below bound [] c low h = absurd (cc)
ranges_below bound (r ∷ rs) c low h =
    let parts = and_parts (nat_lt r.1 bound) (list_all (λ (x : Range). nat_lt x.1 bound) rs) low in
    elim (either (nat_le r.0 c && nat_le c r.1) (in_ranges rs c) h) [
      | inl w ↦
          let last : c ≤ r.1 = leb-true c r.1 (and_parts (nat_le r.0 c) (nat_le c r.1) w).1 in
          let end : r.1 < bound = ltb-true r.1 bound parts.0 in
          omega arith
      | inr w ↦ ranges_below bound rs c parts.1 w
    ]

ignorable_is_small : (c : ℕ) → is_default_ignorable_code_point c ≡ true → c < 1048576
unfolding is_default_ignorable_code_point default_ignorable_code_point_ranges
ignorable_is_small c h = ranges_below 1048576 default_ignorable_code_point_ranges c refl h

-- none of ASCII is
pub no_invisible : (c : ℕ) → c < 128 → is_invisible c ≡ false
no_invisible c b =
    let separator : is_separator c ≡ false = grind (arith, nat_tests) in
    let annotation : is_annotation c ≡ false = grind (arith, nat_tests) in
    neither _ (is_annotation c) (neither (is_default_ignorable_code_point c) (is_separator c) (ascii_is_shown c b) separator) annotation

-- of ASCII only controls are hidden
pub ascii_hidden : (c : ℕ) → c < 128 → is_control c ≡ is_hidden c
ascii_hidden c b =
    let bracket : (c == 0x27e6) ≡ false = grind (arith, nat_tests) in
    sym (only_first (is_control c) (is_invisible c) (c == 0x27e6) (no_invisible c b) bracket)

control_is_small : (c : ℕ) → is_control c ≡ true → c < 1048576
control_is_small c h = grind (arith, nat_tests)

separator_is_small : (c : ℕ) → is_separator c ≡ true → c < 1048576
separator_is_small c h = grind (arith, nat_tests)

annotation_is_small : (c : ℕ) → is_annotation c ≡ true → c < 1048576
annotation_is_small c h = grind (arith, nat_tests)

bracket_is_small : (c : ℕ) → (c == 0x27e6) ≡ true → c < 1048576
bracket_is_small c h = grind (arith, nat_tests)

line_feed_is_small : (c : ℕ) → (c == 10) ≡ true → c < 1048576
line_feed_is_small c h = grind (arith, nat_tests)

invisible_is_small : (c : ℕ) → is_invisible c ≡ true → c < 1048576
invisible_is_small c h =
    elim (either (is_default_ignorable_code_point c || is_separator c) (is_annotation c) h) [
      | inl w ↦
          elim (either (is_default_ignorable_code_point c) (is_separator c) w) [
            | inl v ↦ ignorable_is_small c v
            | inr v ↦ separator_is_small c v
          ]
      | inr w ↦ annotation_is_small c w
    ]

pub hidden_is_small : (c : ℕ) → is_hidden c ≡ true → c < 1048576
hidden_is_small c h =
    elim (either (is_control c || is_invisible c) (c == 0x27e6) h) [
      | inl w ↦
          elim (either (is_control c) (is_invisible c) w) [
            | inl v ↦ control_is_small c v
            | inr v ↦ invisible_is_small c v
          ]
      | inr w ↦ bracket_is_small c w
    ]

pub marked_is_small : (c : ℕ) → is_marked c ≡ true → c < 1048576
marked_is_small c h =
    elim (either (is_hidden c) (c == 10) h) [
      | inl w ↦ hidden_is_small c w
      | inr w ↦ line_feed_is_small c w
    ]
