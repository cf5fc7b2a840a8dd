-- Tokens that follow one another, by their offsets.
use Rattle.std.proofs.Common.{◌≡◌, ℕ, ◌+◌, ◌-◌, ◌≤◌, ◌<◌, Bool, true, false, ◌&&◌, cond, nat_le, List, [], ◌∷◌, ◌++◌, length, map, take, drop, refl, sym, ap, subst, ◌∙◌, arith, if◌then◌else◌}
use Rattle.std.specs.Prelude.{All, filter}
use Rattle.std.proofs.lemmas.Bool.Decides.{nat_tests}
use Rattle.std.proofs.lemmas.List.Elements.{All-head, All-tail, filter-append}
use Rattle.std.proofs.lemmas.List.{length-drop, length-take-le, map-append}
use Rattle.std.proofs.lemmas.List.Sums.{sum_by-cons}
use Rattle.rustc_lexer.specs.declared.token.DocStyle.TheVariants.{Outer, Inner}
use Rattle.rustc_lexer.specs.declared.token.Token.{Token}
use Rattle.tt.specs.TokenLiterals.{literal_in}
use Rattle.tt_data.specs.Walk.{Step, at_leaf, closes, opens, step_with}
use Rattle.tt_data.specs.declared.leaf.IdentIsRaw.TheVariants as is_raw
use Rattle.tt_data.specs.declared.leaf.Leaf.TheVariants as as_leaf
use Rattle.tt_data.specs.declared.leaf.Spacing.TheVariants.{Alone, Joint}
use Rattle.tt_data.specs.declared.span.Span.{Span}
use Rattle.bridge.specs.Parts.{starts_with_mark, steps_before}
use Rattle.bridge.specs.Reading.{PlacedToken, TextStep, bad, placed_from, range_of, step, written_at}
use Rattle.bridge.specs.Text.{char}
use Rattle.bridge.specs.TokenSteps.{doc_steps, doc_text, is_mark, name_at, name_in, punct_at, class_of, spacing_before, steps_of_class}
use Rattle.expander.specs.PieceTokens.{counted_from, counted_on, is_between}
use Rattle.expander_reparse.specs.Segments.{bytes_of}
use Rattle.expander.proofs.TokenFormLemmas.{Form, blank, by_form, closing, doc, form_steps, mark, name, neither, opening, quoted_name, value}

-- each token has bytes and begins where the one before it ends, the first of them here
abbrev pub InRow : ℕ → List PlacedToken → Type 0
InRow n [] = Unit {0}
InRow n (t ∷ ts) = (t.start ≡ n) × (1 ≤ length t.text) × InRow (n + length t.text) ts

-- where such tokens end
abbrev pub end_from : ℕ → List PlacedToken → ℕ
end_from n [] = n
end_from n (t ∷ ts) = end_from (n + length t.text) ts

-- the tokens of a text follow one another
pub in_row : (n : ℕ) (text : List ℕ) (tokens : List Token) → All (λ (t : Token). 1 ≤ t.len) tokens → bytes_of tokens ≤ length text → InRow n (placed_from n text tokens)
in_row n text [] some fits = tt
in_row n text (t ∷ tokens) some fits =
    let sum : bytes_of (t ∷ tokens) ≡ t.len + bytes_of tokens = sum_by-cons (λ (u : Token). u.len) t tokens in
    let long : length (take t.len text) ≡ t.len = length-take-le t.len text (omega (arith, sum, fits)) in
    let first : 1 ≤ t.len = All-head (λ (u : Token). 1 ≤ u.len) t tokens some in
    let later : bytes_of tokens ≤ length (drop t.len text) = omega (arith, sum, fits, length-drop t.len text) in (
      refl,
      omega (arith, long, first),
      subst (λ (k : ℕ). InRow (n + k) (placed_from (n + t.len) (drop t.len text) tokens)) (sym long)
          (in_row (n + t.len) (drop t.len text) tokens (All-tail (λ (u : Token). 1 ≤ u.len) t tokens some) later),
    )

pub row_behind : (n : ℕ) (a b : List PlacedToken) → InRow n (a ++ b) → InRow (end_from n a) b
row_behind n [] b h = h
row_behind n (t ∷ a) b h = row_behind (n + length t.text) a b h.2

pub row_front : (n : ℕ) (a b : List PlacedToken) → InRow n (a ++ b) → InRow n a
row_front n [] b h = tt
row_front n (t ∷ a) b h = (h.0, h.1, row_front (n + length t.text) a b h.2)

pub end_append : (n : ℕ) (a b : List PlacedToken) → end_from n (a ++ b) ≡ end_from (end_from n a) b
end_append n [] b = refl
end_append n (t ∷ a) b = end_append (n + length t.text) a b

end_behind : (n : ℕ) (ts : List PlacedToken) → n ≤ end_from n ts
end_behind n [] = omega arith
end_behind n (t ∷ ts) = omega (arith, end_behind (n + length t.text) ts)

-- ---- those between two places

module _ (from to : ℕ) where
  left_away : (b : Bool) (t : PlacedToken) (ts : List PlacedToken) → b ≡ false → ts ≡ [] → cond b (t ∷ ts) ts ≡ []
  left_away false t ts e h = h
  left_away true t ts e h = cc

  taken_in : (b : Bool) (t : PlacedToken) (ts us : List PlacedToken) → b ≡ true → ts ≡ us → cond b (t ∷ ts) ts ≡ t ∷ us
  taken_in true t ts us e h = ap (λ l. t ∷ l) h
  taken_in false t ts us e h = cc

  and_not : (a b : Bool) → b ≡ false → (a && b) ≡ false
  and_not true b e = e
  and_not false b e = refl

  none_before : (n : ℕ) (ts : List PlacedToken) → InRow n ts → end_from n ts ≤ from → filter (is_between from to) ts ≡ []
  none_before n [] h e = refl
  none_before n (t ∷ ts) h e =
      let behind = end_behind (n + length t.text) ts in
      let before : t.start < from = omega (arith, h.0, h.1, e, behind) in
      let no : nat_le from t.start ≡ false = grind (arith, nat_tests, before) in
      left_away (is_between from to t) t (filter (is_between from to) ts) (ap (λ b. b && nat_le (t.start + length t.text) to) no)
      (none_before (n + length t.text) ts h.2 e)

  none_behind : (n : ℕ) (ts : List PlacedToken) → InRow n ts → to ≤ n → filter (is_between from to) ts ≡ []
  none_behind n [] h e = refl
  none_behind n (t ∷ ts) h e =
      let past : to < t.start + length t.text = omega (arith, h.0, h.1, e) in
      let no : nat_le (t.start + length t.text) to ≡ false = grind (arith, nat_tests, past) in
      left_away (is_between from to t) t (filter (is_between from to) ts) (and_not (nat_le from t.start) (nat_le (t.start + length t.text) to) no)
      (none_behind (n + length t.text) ts h.2 (omega (arith, e)))

  all_between : (n : ℕ) (ts : List PlacedToken) → InRow n ts → from ≤ n → end_from n ts ≤ to → filter (is_between from to) ts ≡ ts
  all_between n [] h e g = refl
  all_between n (t ∷ ts) h e g =
      let behind = end_behind (n + length t.text) ts in
      let starts : from ≤ t.start = omega (arith, h.0, e) in
      let stops : t.start + length t.text ≤ to = omega (arith, h.0, g, behind) in
      let one : nat_le from t.start ≡ true = grind (arith, nat_tests, starts) in
      let two : nat_le (t.start + length t.text) to ≡ true = grind (arith, nat_tests, stops) in
      taken_in (is_between from to t) t (filter (is_between from to) ts) ts (ap (λ b. b && nat_le (t.start + length t.text) to) one ∙ two)
      (all_between (n + length t.text) ts h.2 (omega (arith, e)) g)

-- of tokens that follow one another those of a part stand between its first place and its last
pub part_between : (n from to : ℕ) (before part behind : List PlacedToken) → InRow n (before ++ (part ++ behind))
    → end_from n before ≡ from → end_from from part ≡ to → filter (is_between from to) (before ++ (part ++ behind)) ≡ part
part_between n from to before part behind row first last =
    let test : PlacedToken → Bool = is_between from to in
    let row_part : InRow from (part ++ behind) = subst (λ (k : ℕ). InRow k (part ++ behind)) first (row_behind n before (part ++ behind) row) in
    let row_rest : InRow to behind = subst (λ (k : ℕ). InRow k behind) last (row_behind from part behind row_part) in
    filter-append test before (part ++ behind)
    ∙ ap (λ l. l ++ filter test (part ++ behind)) (none_before from to n before (row_front n before (part ++ behind) row) (omega (arith, first)))
    ∙ filter-append test part behind
    ∙ ap (λ l. l ++ filter test behind) (all_between from to from part (row_front from part behind row_part) (omega arith) (omega (arith, last)))
    ∙ ap (λ l. part ++ l) (none_behind from to to behind row_rest (omega arith))
    ∙ append_nothing part
  where
    append_nothing : (l : List PlacedToken) → l ++ [] ≡ l
    append_nothing [] = refl
    append_nothing (t ∷ l) = ap (λ m. t ∷ m) (append_nothing l)

-- ---- a token before others

-- what one token is read as hangs on the others only by whether a punct follows
form_before : (form : Form) (t : PlacedToken) (a b : List PlacedToken) → starts_with_mark a ≡ starts_with_mark b → form_steps form t a ≡ form_steps form t b
form_before blank t a b e = refl
form_before (name raw) t a b e = refl
form_before (mark c) t a b e =
    ap (λ spacing. step (punct_at c spacing (written_at (range_of t))) ∷ [])
    (spacing_mark a ∙ ap (λ (m : Bool). if m then Joint else Alone) e ∙ sym (spacing_mark b))
  where
    spacing_mark : (after : List PlacedToken) → spacing_before after ≡ (if starts_with_mark after then Joint else Alone)
    spacing_mark [] = refl
    spacing_mark (u ∷ more) = refl
form_before (opening k) t a b e = refl
form_before (closing k) t a b e = refl
form_before quoted_name t a b e = refl
form_before (doc style is_block) t a b e = refl
form_before (value f suffix_start) t a b e = refl
form_before neither t a b e = refl

pub sort_before : (t : PlacedToken) (a b : List PlacedToken) → starts_with_mark a ≡ starts_with_mark b
    → steps_of_class (class_of t.kind) t a ≡ steps_of_class (class_of t.kind) t b
sort_before t a b e = by_form (λ read is_one. read t a ≡ read t b) (λ form. form_before form t a b e) t.kind

-- ---- at other places

starts_at_others : (F : PlacedToken → PlacedToken) → ((t : PlacedToken) → (F t).kind ≡ t.kind) → (ts others : List PlacedToken)
    → starts_with_mark (map F ts ++ others) ≡ starts_with_mark (map F (ts ++ others))
starts_at_others F same [] [] = refl
starts_at_others F same [] (t ∷ others) = ap (λ k. is_mark (class_of k)) (sym (same t))
starts_at_others F same (t ∷ ts) others = refl

module _ (shift : ℕ → ℕ) where
  -- a token with its place changed
  abbrev pub shifted_token : PlacedToken → PlacedToken
  shifted_token t = record t { start = shift t.start }

  abbrev pub shifted_span : Span → Span
  shifted_span s = record s { range = record { start = shift s.range.start; «end» = shift s.range.«end» } }

  abbrev pub shifted_step : TextStep → TextStep
  shifted_step (step s) = step (step_with shifted_span s)
  shifted_step (bad range) = bad (record { start = shift range.start; «end» = shift range.«end» })

  -- the places behind its start are changed as its start is
  abbrev pub Goes : PlacedToken → Type 0
  Goes t = (k : ℕ) → shift (t.start + k) ≡ shift t.start + k

  abbrev pub AllGo : List PlacedToken → Type 0
  AllGo [] = Unit {0}
  AllGo (t ∷ ts) = Goes t × AllGo ts

  spacing_shifted : (after : List PlacedToken) → spacing_before (map shifted_token after) ≡ spacing_before after
  spacing_shifted [] = refl
  spacing_shifted (t ∷ more) = refl

  at_shifted : (t : PlacedToken) → Goes t → written_at (range_of (shifted_token t)) ≡ shifted_span (written_at (range_of t))
  at_shifted t h = ap (λ (k : ℕ). written_at (record { start = shift t.start; «end» = k })) (sym (h (length t.text)))

  form_shifted : (form : Form) (t : PlacedToken) (after : List PlacedToken) → Goes t
      → form_steps form (shifted_token t) (map shifted_token after) ≡ map shifted_step (form_steps form t after)
  form_shifted blank t after h = refl
  form_shifted (name raw) t after h = ap (λ (span : Span). step (name_at (name_in raw t.text) raw span) ∷ []) (at_shifted t h)
  form_shifted (mark c) t after h =
      ap (λ (span : Span). step (punct_at c (spacing_before (map shifted_token after)) span) ∷ []) (at_shifted t h)
      ∙ ap (λ spacing. step (punct_at c spacing (shifted_span (written_at (range_of t)))) ∷ []) (spacing_shifted after)
  form_shifted (opening k) t after h = ap (λ (span : Span). step (opens k span) ∷ []) (at_shifted t h)
  form_shifted (closing k) t after h = ap (λ (span : Span). step (closes k span) ∷ []) (at_shifted t h)
  form_shifted quoted_name t after h =
      ap (λ (k : ℕ). step (punct_at (char "'") Joint (written_at (record { start = shift t.start; «end» = k })))
      ∷ step (name_at (drop 1 t.text) is_raw.No (written_at (record { start = k; «end» = shift t.start + length t.text }))) ∷ [])
      (sym (h 1))
      ∙ ap (λ (k : ℕ). step (punct_at (char "'") Joint (written_at (record { start = shift t.start; «end» = shift (t.start + 1) })))
      ∷ step (name_at (drop 1 t.text) is_raw.No (written_at (record { start = shift (t.start + 1); «end» = k }))) ∷ [])
      (sym (h (length t.text)))
  form_shifted (doc Outer is_block) t after h = ap (λ (span : Span). map step (doc_steps Outer (doc_text is_block t.text) span)) (at_shifted t h)
  form_shifted (doc Inner is_block) t after h = ap (λ (span : Span). map step (doc_steps Inner (doc_text is_block t.text) span)) (at_shifted t h)
  form_shifted (value f suffix_start) t after h =
      ap (λ (span : Span). step (at_leaf (as_leaf.Literal (literal_in f suffix_start t.text span))) ∷ []) (at_shifted t h)
  form_shifted neither t after h = ap (λ (k : ℕ). bad (record { start = shift t.start; «end» = k }) ∷ []) (sym (h (length t.text)))

  sort_shifted : (t : PlacedToken) (after : List PlacedToken) → Goes t
      → steps_of_class (class_of t.kind) (shifted_token t) (map shifted_token after) ≡ map shifted_step (steps_of_class (class_of t.kind) t after)
  sort_shifted t after h =
      by_form (λ read is_one. read (shifted_token t) (map shifted_token after) ≡ map shifted_step (read t after)) (λ form. form_shifted form t after h) t.kind

  pub steps_shifted : (ts others : List PlacedToken) → AllGo ts → steps_before (map shifted_token ts) others ≡ map shifted_step (steps_before ts others)
  steps_shifted [] others h = refl
  steps_shifted (t ∷ ts) others h =
      ap (λ (l : List TextStep). l ++ steps_before (map shifted_token ts) others)
      (sort_before (shifted_token t) (map shifted_token ts ++ others) (map shifted_token (ts ++ others)) (starts_at_others shifted_token (λ u. refl) ts others)
      ∙ sort_shifted t (ts ++ others) h.0)
      ∙ ap (λ (l : List TextStep). map shifted_step (steps_of_class (class_of t.kind) t (ts ++ others)) ++ l) (steps_shifted ts others h.1)
      ∙ sym (map-append shifted_step (steps_of_class (class_of t.kind) t (ts ++ others)) (steps_before ts others))

  -- steps of a walk
  pub walk_shifted : (steps : List Step) → map shifted_step (map step steps) ≡ map step (map (step_with shifted_span) steps)
  walk_shifted [] = refl
  walk_shifted (s ∷ more) = ap (λ (xs : List TextStep). step (step_with shifted_span s) ∷ xs) (walk_shifted more)

-- places counted from n on
pub all_back : (n m : ℕ) (ts : List PlacedToken) → n ≤ m → InRow m ts → AllGo (λ k. k - n) ts
all_back n m [] h row = tt
all_back n m (t ∷ ts) h row = (λ k. omega (arith, h, row.0), all_back n (m + length t.text) ts (omega (arith, h)) row.2)

-- places counted on from n
pub all_on : (n : ℕ) (ts : List PlacedToken) → AllGo (λ k. n + k) ts
all_on n [] = tt
all_on n (t ∷ ts) = (λ k. omega arith, all_on n ts)

-- counted from n, and on again
pub on_again : (n m : ℕ) (ts : List PlacedToken) → n ≤ m → InRow m ts → map (counted_on n) (map (counted_from n) ts) ≡ ts
on_again n m [] h row = refl
on_again n m (t ∷ ts) h row =
    let e : n + (t.start - n) ≡ t.start = omega (arith, h, row.0) in
    ap (λ (k : ℕ). record { kind = t.kind; start = k; text = t.text } ∷ map (counted_on n) (map (counted_from n) ts)) e
    ∙ ap (λ l. t ∷ l) (on_again n (m + length t.text) ts (omega (arith, h)) row.2)
