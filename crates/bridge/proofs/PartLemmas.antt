-- Parts of a text: side by side, at other offsets, and in other texts.
use Rattle.std.proofs.Common.{◌≡◌, ℕ, zero, suc, ◌+◌, ◌-◌, ◌<◌, ◌≤◌, List, [], ◌∷◌, ◌++◌, length, map, take, drop, sum_by, refl, sym, ap, ◌∙◌, append_assoc, arith, chars}
use Rattle.std.proofs.lemmas.List.{append-nil, drop-append-le, drop-drop, drop_all, length-drop, map-append, take-append-drop, take-append-le, take-map, take_all}
use Rattle.std.proofs.lemmas.List.Sums.{sum_by-cons}
use Rattle.std.specs.Prelude.{if◌then◌else◌}
use Rattle.rustc_lexer.specs.Lexing.{tokens_of}
use Rattle.rustc_lexer.specs.declared.token.DocStyle.TheVariants.{Outer, Inner}
use Rattle.rustc_lexer.specs.declared.token.Token.{Token}
use Rattle.tt_data.proofs.ForestLemmas.{map_spans-map_spans, map_spans-same, walk-map_spans}
use Rattle.tt_data.specs.Forest.{Forest, empty, leaf, group, map_spans}
use Rattle.tt_data.specs.Spans.{delimiter_with, leaf_with}
use Rattle.tt_data.specs.Walk.{Step, at_leaf, closes, opens, step_with, walk}
use Rattle.tt_data.specs.declared.delimiter.Delimiter.{Delimiter}
use Rattle.tt_data.specs.declared.leaf.IdentIsRaw.TheVariants as is_raw
use Rattle.tt_data.specs.declared.leaf.Leaf.{Leaf}
use Rattle.tt_data.specs.declared.leaf.Leaf.TheVariants as as_leaf
use Rattle.tt_data.specs.declared.leaf.Spacing.TheVariants.{Alone, Joint}
use Rattle.tt_data.specs.declared.span.Span.{Span}
use Rattle.tt_data.specs.declared.span.TextRange.{TextRange}
use Rattle.tt.specs.TokenLiterals.{literal_in}
use Rattle.bridge.specs.Parts.{begins_with_mark, part_steps, placed_on, starts_with_mark, steps_before}
use Rattle.bridge.specs.Pieces.{first_start, moved_back, relative}
use Rattle.bridge.specs.Reading.{IsReading, PlacedToken, TextStep, bad, placed_from, range_of, step, written_at}
use Rattle.bridge.specs.Text.{char}
use Rattle.bridge.specs.TokenSteps.{doc_steps, doc_text, name_at, name_in, punct_at, class_of, spacing_before, steps_of, steps_of_class, text_steps}
use Rattle.bridge.specs.declared.reading.classify.TokenClass.{TokenClass}
use Rattle.bridge.specs.declared.reading.classify.TokenClass.TheVariants.{Blank, Name, Mark, Opening, Closing, QuotedName, Doc, Value, Neither}

-- ---- side by side

pub steps_of-append : (a b : List PlacedToken) → steps_of (a ++ b) ≡ steps_before a b ++ steps_of b
steps_of-append [] b = refl
steps_of-append (t ∷ a) b =
    ap (λ s. steps_of_class (class_of t.kind) t (a ++ b) ++ s) (steps_of-append a b)
    ∙ sym (append_assoc (steps_of_class (class_of t.kind) t (a ++ b)) (steps_before a b) (steps_of b))

abbrev bytes_of : List Token → ℕ
bytes_of tokens = sum_by (λ t. t.len) tokens

drop-placed : (count at : ℕ) (text : List ℕ) (tokens : List Token)
    → drop count (placed_from at text tokens) ≡ placed_from (at + bytes_of (take count tokens)) (drop (bytes_of (take count tokens)) text) (drop count tokens)
drop-placed zero at text tokens = let e : at + 0 ≡ at = omega arith in ap (λ k. placed_from k text tokens) (sym e)
drop-placed (suc n) at text [] = refl
drop-placed (suc n) at text (t ∷ tokens) =
    let sum : bytes_of (t ∷ take n tokens) ≡ t.len + bytes_of (take n tokens) = sum_by-cons (λ u. u.len) t (take n tokens) in
    let place : at + t.len + bytes_of (take n tokens) ≡ at + (t.len + bytes_of (take n tokens)) = omega arith in
    drop-placed n (at + t.len) (drop t.len text) tokens
    ∙ ap (λ k. placed_from k (drop (bytes_of (take n tokens)) (drop t.len text)) (drop n tokens)) place
    ∙ ap (λ bs. placed_from (at + (t.len + bytes_of (take n tokens))) bs (drop n tokens)) (drop-drop (bytes_of (take n tokens)) t.len text)
    ∙ ap (λ k. placed_from (at + k) (drop k text) (drop n tokens)) (sym sum)

pub part_of_text : (at count : ℕ) (text : List ℕ) (tokens : List Token)
    → steps_of (placed_from at text tokens)
    ≡ part_steps at count text tokens
    ++ steps_of (placed_from (at + sum_by (λ t. t.len) (take count tokens)) (drop (sum_by (λ t. t.len) (take count tokens)) text) (drop count tokens))
part_of_text at count text tokens =
    ap steps_of (sym (take-append-drop count (placed_from at text tokens)))
    ∙ steps_of-append (take count (placed_from at text tokens)) (drop count (placed_from at text tokens))
    ∙ ap (λ ps. part_steps at count text tokens ++ steps_of ps) (drop-placed count at text tokens)

-- all tokens are a part too
length-placed : (at : ℕ) (text : List ℕ) (tokens : List Token) → length (placed_from at text tokens) ≡ length tokens
length-placed at text [] = refl
length-placed at text (t ∷ more) = ap suc (length-placed (at + t.len) (drop t.len text) more)

steps_before-nil : (ps : List PlacedToken) → steps_before ps [] ≡ steps_of ps
steps_before-nil [] = refl
steps_before-nil (t ∷ more) =
    ap (λ after. steps_of_class (class_of t.kind) t after ++ steps_before more []) (append-nil more)
    ∙ ap (λ s. steps_of_class (class_of t.kind) t more ++ s) (steps_before-nil more)

whole_part : (ps : List PlacedToken) (n : ℕ) → length ps ≡ n → steps_before (take n ps) (drop n ps) ≡ steps_of ps
whole_part ps n e =
    let all : length ps ≤ n = omega (arith, e) in
    ap (λ xs. steps_before xs (drop n ps)) (take_all n ps all)
    ∙ ap (λ xs. steps_before ps xs) (drop_all n ps all)
    ∙ steps_before-nil ps

pub whole_text : (text : List ℕ) (tokens : List Token) → tokens ≡ tokens_of (chars text) → part_steps 0 (length tokens) text tokens ≡ text_steps text
whole_text text tokens are =
    whole_part (placed_from 0 text tokens) (length tokens) (length-placed 0 text tokens) ∙ ap (λ ts. steps_of (placed_from 0 text ts)) are

-- the first token of a part
pub part_more : (at left : ℕ) (text : List ℕ) (t : Token) (more : List Token) → 0 < left
    → part_steps at left text (t ∷ more)
    ≡ steps_of_class (class_of t.kind) (record { kind = t.kind; start = at; text = take t.len text }) (placed_from (at + t.len) (drop t.len text) more)
    ++ part_steps (at + t.len) (left - 1) (drop t.len text) more
part_more at zero text t more some = absurd (omega (arith, some))
part_more at (suc n) text t more some =
    let less : suc n - 1 ≡ n = omega arith in
    ap (λ after. steps_of_class (class_of t.kind) (record { kind = t.kind; start = at; text = take t.len text }) after
    ++ part_steps (at + t.len) n (drop t.len text) more)
    (take-append-drop n (placed_from (at + t.len) (drop t.len text) more))
    ∙ ap (λ k. steps_of_class (class_of t.kind) (record { kind = t.kind; start = at; text = take t.len text }) (placed_from (at + t.len) (drop t.len text) more)
    ++ part_steps (at + t.len) k (drop t.len text) more)
    (sym less)

-- ---- at other places

module _ (n : ℕ) where
  abbrev moved_token : PlacedToken → PlacedToken
  moved_token t = record { kind = t.kind; start = n + t.start; text = t.text }

  abbrev moved_range : TextRange → TextRange
  moved_range r = record { start = n + r.start; «end» = n + r.«end» }

  abbrev moved_step : TextStep → TextStep
  moved_step (step s) = step (step_with (placed_on n) s)
  moved_step (bad range) = bad (moved_range range)

  placed-moved : (at : ℕ) (text : List ℕ) (tokens : List Token) → placed_from (n + at) text tokens ≡ map moved_token (placed_from at text tokens)
  placed-moved at text [] = refl
  placed-moved at text (t ∷ more) =
      let e : n + at + t.len ≡ n + (at + t.len) = omega arith in
      ap (λ ps. record { kind = t.kind; start = n + at; text = take t.len text } ∷ ps)
      (ap (λ k. placed_from k (drop t.len text) more) e ∙ placed-moved (at + t.len) (drop t.len text) more)

  range-moved : (t : PlacedToken) → range_of (moved_token t) ≡ moved_range (range_of t)
  range-moved t =
      let e : n + t.start + length t.text ≡ n + (t.start + length t.text) = omega arith in
      ap (λ k. record { start = n + t.start; «end» = k }) e

  at-moved : (t : PlacedToken) → written_at (range_of (moved_token t)) ≡ placed_on n (written_at (range_of t))
  at-moved t = ap written_at (range-moved t)

  spacing-moved : (after : List PlacedToken) → spacing_before (map moved_token after) ≡ spacing_before after
  spacing-moved [] = refl
  spacing-moved (t ∷ more) = refl

  class-moved : (class : TokenClass) (t : PlacedToken) (after : List PlacedToken)
      → steps_of_class class (moved_token t) (map moved_token after) ≡ map moved_step (steps_of_class class t after)
  class-moved Blank t after = refl
  class-moved (Name raw) t after = ap (λ span. step (name_at (name_in raw t.text) raw span) ∷ []) (at-moved t)
  class-moved (Mark c) t after =
      ap (λ span. step (punct_at c (spacing_before (map moved_token after)) span) ∷ []) (at-moved t)
      ∙ ap (λ spacing. step (punct_at c spacing (placed_on n (written_at (range_of t)))) ∷ []) (spacing-moved after)
  class-moved (Opening k) t after = ap (λ span. step (opens k span) ∷ []) (at-moved t)
  class-moved (Closing k) t after = ap (λ span. step (closes k span) ∷ []) (at-moved t)
  class-moved QuotedName t after =
      let behind : n + t.start + 1 ≡ n + (t.start + 1) = omega arith in
      let last : n + t.start + length t.text ≡ n + (t.start + length t.text) = omega arith in
      ap (λ k. step (punct_at (char "'") Joint (written_at (record { start = n + t.start; «end» = k })))
      ∷ step (name_at (drop 1 t.text) is_raw.No (written_at (record { start = k; «end» = n + t.start + length t.text }))) ∷ [])
      behind
      ∙ ap (λ k. step (punct_at (char "'") Joint (written_at (record { start = n + t.start; «end» = n + (t.start + 1) })))
      ∷ step (name_at (drop 1 t.text) is_raw.No (written_at (record { start = n + (t.start + 1); «end» = k }))) ∷ [])
      last
  class-moved (Doc Outer is_block) t after = ap (λ span. map step (doc_steps Outer (doc_text is_block t.text) span)) (at-moved t)
  class-moved (Doc Inner is_block) t after = ap (λ span. map step (doc_steps Inner (doc_text is_block t.text) span)) (at-moved t)
  class-moved (Value f suffix_start) t after =
      ap (λ span. step (at_leaf (as_leaf.Literal (literal_in f suffix_start t.text span))) ∷ []) (at-moved t)
  class-moved Neither t after = ap (λ range. bad range ∷ []) (range-moved t)

  before-moved : (ps after : List PlacedToken)
      → steps_before (map moved_token ps) (map moved_token after) ≡ map moved_step (steps_before ps after)
  before-moved [] after = refl
  before-moved (t ∷ more) after =
      ap (λ xs. steps_of_class (class_of t.kind) (moved_token t) xs ++ steps_before (map moved_token more) (map moved_token after))
      (sym (map-append moved_token more after))
      ∙ ap (λ xs. xs ++ steps_before (map moved_token more) (map moved_token after)) (class-moved (class_of t.kind) t (more ++ after))
      ∙ ap (λ xs. map moved_step (steps_of_class (class_of t.kind) t (more ++ after)) ++ xs) (before-moved more after)
      ∙ sym (map-append moved_step (steps_of_class (class_of t.kind) t (more ++ after)) (steps_before more after))

  drop-moved : (k : ℕ) (ps : List PlacedToken) → drop k (map moved_token ps) ≡ map moved_token (drop k ps)
  drop-moved zero ps = refl
  drop-moved (suc k) [] = refl
  drop-moved (suc k) (t ∷ more) = drop-moved k more

  part-moved : (count : ℕ) (text : List ℕ) (tokens : List Token) → part_steps n count text tokens ≡ map moved_step (part_steps 0 count text tokens)
  part-moved count text tokens =
      let e : n ≡ n + 0 = omega arith in
      let all : placed_from n text tokens ≡ map moved_token (placed_from 0 text tokens) = ap (λ k. placed_from k text tokens) e ∙ placed-moved 0 text tokens in
      ap (λ ps. steps_before (take count ps) (drop count ps)) all
      ∙ ap (λ ps. steps_before ps (drop count (map moved_token (placed_from 0 text tokens)))) (take-map moved_token count (placed_from 0 text tokens))
      ∙ ap (λ ps. steps_before (map moved_token (take count (placed_from 0 text tokens))) ps) (drop-moved count (placed_from 0 text tokens))
      ∙ before-moved (take count (placed_from 0 text tokens)) (drop count (placed_from 0 text tokens))

  steps-moved : (steps : List Step) → map moved_step (map step steps) ≡ map step (map (step_with (placed_on n)) steps)
  steps-moved [] = refl
  steps-moved (s ∷ more) = ap (λ xs. step (step_with (placed_on n) s) ∷ xs) (steps-moved more)

  pub reading-moved : (count : ℕ) (text : List ℕ) (tokens : List Token) (f : Forest) → IsReading (part_steps 0 count text tokens) f
      → IsReading (part_steps n count text tokens) (map_spans (placed_on n) f)
  reading-moved count text tokens f is =
      part-moved count text tokens ∙ ap (map moved_step) is ∙ steps-moved (walk f) ∙ ap (map step) (sym (walk-map_spans (placed_on n) f))

-- ---- places counted from the first token

module _ (g h : Span → Span) (same : (s : Span) → g s ≡ h s) where
  leaf-same : (l : Leaf) → leaf_with g l ≡ leaf_with h l
  leaf-same (as_leaf.Literal l) = ap (λ s. as_leaf.Literal (record l { span = s })) (same l.span)
  leaf-same (as_leaf.Punct p) = ap (λ s. as_leaf.Punct (record p { span = s })) (same p.span)
  leaf-same (as_leaf.Ident i) = ap (λ s. as_leaf.Ident (record i { span = s })) (same i.span)

  delimiter-same : (d : Delimiter) → delimiter_with g d ≡ delimiter_with h d
  delimiter-same d =
      ap (λ s. record { open_span = s; close_span = g d.close_span; kind = d.kind }) (same d.open_span)
      ∙ ap (λ s. record { open_span = h d.open_span; close_span = s; kind = d.kind }) (same d.close_span)

  spans-same : (f : Forest) → map_spans g f ≡ map_spans h f
  spans-same empty = refl
  spans-same (leaf l rest) = ap (λ x. leaf x (map_spans g rest)) (leaf-same l) ∙ ap (leaf (leaf_with h l)) (spans-same rest)
  spans-same (group d inner rest) =
      ap (λ x. group x (map_spans g inner) (map_spans g rest)) (delimiter-same d)
      ∙ ap (λ x. group (delimiter_with h d) x (map_spans g rest)) (spans-same inner)
      ∙ ap (group (delimiter_with h d) (map_spans h inner)) (spans-same rest)

back_on : (at n : ℕ) (s : Span) → moved_back (at + n) (placed_on at s) ≡ moved_back n s
back_on at n s =
    let first : at + s.range.start - (at + n) ≡ s.range.start - n = omega arith in
    let last : at + s.range.«end» - (at + n) ≡ s.range.«end» - n = omega arith in
    ap (λ k. record s { range = record { start = k; «end» = at + s.range.«end» - (at + n) } }) first
    ∙ ap (λ k. record s { range = record { start = s.range.start - n; «end» = k } }) last

spans_back : (at n : ℕ) (f : Forest) → map_spans (moved_back (at + n)) (map_spans (placed_on at) f) ≡ map_spans (moved_back n) f
spans_back at n f =
    map_spans-map_spans (moved_back (at + n)) (placed_on at) f
    ∙ spans-same (λ s. moved_back (at + n) (placed_on at s)) (moved_back n) (back_on at n) f

pub relative_on : (at : ℕ) (f : Forest) → relative (map_spans (placed_on at) f) ≡ relative f
relative_on at empty = refl
relative_on at (leaf (as_leaf.Literal l) rest) = spans_back at l.span.range.start (leaf (as_leaf.Literal l) rest)
relative_on at (leaf (as_leaf.Punct p) rest) = spans_back at p.span.range.start (leaf (as_leaf.Punct p) rest)
relative_on at (leaf (as_leaf.Ident i) rest) = spans_back at i.span.range.start (leaf (as_leaf.Ident i) rest)
relative_on at (group d inner rest) = spans_back at d.open_span.range.start (group d inner rest)

back_none : (s : Span) → moved_back 0 s ≡ s
back_none s =
    let first : s.range.start - 0 ≡ s.range.start = omega arith in
    let last : s.range.«end» - 0 ≡ s.range.«end» = omega arith in
    ap (λ k. record s { range = record { start = k; «end» = s.range.«end» - 0 } }) first
    ∙ ap (λ k. record s { range = record { start = s.range.start; «end» = k } }) last

pub relative_first : (f : Forest) → first_start f ≡ 0 → relative f ≡ f
relative_first f e =
    ap (λ n. map_spans (moved_back n) f) e ∙ spans-same (moved_back 0) (λ s. s) back_none f ∙ map_spans-same f

-- ---- in other texts

spacing-mark : (after : List PlacedToken) → spacing_before after ≡ (if starts_with_mark after then Joint else Alone)
spacing-mark [] = refl
spacing-mark (t ∷ more) = refl

class-before : (class : TokenClass) (t : PlacedToken) (a b : List PlacedToken) → starts_with_mark a ≡ starts_with_mark b → steps_of_class class t a ≡ steps_of_class class t b
class-before Blank t a b e = refl
class-before (Name raw) t a b e = refl
class-before (Mark c) t a b e =
    ap (λ spacing. step (punct_at c spacing (written_at (range_of t))) ∷ [])
    (spacing-mark a ∙ ap (λ m. if m then Joint else Alone) e ∙ sym (spacing-mark b))
class-before (Opening k) t a b e = refl
class-before (Closing k) t a b e = refl
class-before QuotedName t a b e = refl
class-before (Doc style is_block) t a b e = refl
class-before (Value f suffix_start) t a b e = refl
class-before Neither t a b e = refl

starts-before : (ps a b : List PlacedToken) → starts_with_mark a ≡ starts_with_mark b → starts_with_mark (ps ++ a) ≡ starts_with_mark (ps ++ b)
starts-before [] a b e = e
starts-before (t ∷ more) a b e = refl

steps-before : (ps a b : List PlacedToken) → starts_with_mark a ≡ starts_with_mark b → steps_before ps a ≡ steps_before ps b
steps-before [] a b e = refl
steps-before (t ∷ more) a b e =
    ap (λ s. s ++ steps_before more a) (class-before (class_of t.kind) t (more ++ a) (more ++ b) (starts-before more a b e))
    ∙ ap (λ s. steps_of_class (class_of t.kind) t (more ++ b) ++ s) (steps-before more a b e)

placed-within : (at : ℕ) (s rest : List ℕ) (ts more : List Token) → sum_by (λ t. t.len) ts ≤ length s
    → take (length ts) (placed_from at (s ++ rest) (ts ++ more)) ≡ placed_from at s ts
placed-within at s rest [] more fits = refl
placed-within at s rest (t ∷ ts) more fits =
    let sum : bytes_of (t ∷ ts) ≡ t.len + bytes_of ts = sum_by-cons (λ u. u.len) t ts in
    let here : t.len ≤ length s = omega (arith, fits, sum) in
    let behind : bytes_of ts ≤ length (drop t.len s) = omega (arith, fits, sum, length-drop t.len s) in
    ap (λ bs. record { kind = t.kind; start = at; text = bs } ∷ take (length ts) (placed_from (at + t.len) (drop t.len (s ++ rest)) (ts ++ more)))
    (take-append-le t.len s rest here)
    ∙ ap (λ bs. record { kind = t.kind; start = at; text = take t.len s } ∷ take (length ts) (placed_from (at + t.len) bs (ts ++ more)))
    (drop-append-le t.len s rest here)
    ∙ ap (λ ps. record { kind = t.kind; start = at; text = take t.len s } ∷ ps) (placed-within (at + t.len) (drop t.len s) rest ts more behind)

starts-placed : (at : ℕ) (text : List ℕ) (tokens : List Token) → starts_with_mark (placed_from at text tokens) ≡ begins_with_mark tokens
starts-placed at text [] = refl
starts-placed at text (t ∷ more) = refl

starts-behind : (at : ℕ) (text : List ℕ) (ts more : List Token)
    → starts_with_mark (drop (length ts) (placed_from at text (ts ++ more))) ≡ begins_with_mark more
starts-behind at text [] more = starts-placed at text more
starts-behind at text (t ∷ ts) more = starts-behind (at + t.len) (drop t.len text) ts more

pub equal_part : (at : ℕ) (text s rest : List ℕ) (tokens ts more : List Token) (after : List PlacedToken)
    → text ≡ s ++ rest → tokens ≡ ts ++ more → sum_by (λ t. t.len) ts ≡ length s → starts_with_mark after ≡ begins_with_mark more
    → part_steps at (length ts) text tokens ≡ steps_before (placed_from at s ts) after
equal_part at text s rest tokens ts more after is are sum mark =
    let fits : sum_by (λ t. t.len) ts ≤ length s = omega (arith, sum) in
    ap (λ bs. part_steps at (length ts) bs tokens) is
    ∙ ap (part_steps at (length ts) (s ++ rest)) are
    ∙ ap (λ ps. steps_before ps (drop (length ts) (placed_from at (s ++ rest) (ts ++ more)))) (placed-within at s rest ts more fits)
    ∙ steps-before (placed_from at s ts) (drop (length ts) (placed_from at (s ++ rest) (ts ++ more))) after
    (starts-behind at (s ++ rest) ts more ∙ sym mark)

pub equal_texts : (at : ℕ) (s rest other : List ℕ) (ts more others : List Token)
    → sum_by (λ t. t.len) ts ≡ length s → begins_with_mark more ≡ begins_with_mark others
    → part_steps at (length ts) (s ++ rest) (ts ++ more) ≡ part_steps at (length ts) (s ++ other) (ts ++ others)
equal_texts at s rest other ts more others sum mark =
    equal_part at (s ++ rest) s rest (ts ++ more) ts more (placed_from 0 [] more) refl refl sum (starts-placed 0 [] more)
    ∙ sym (equal_part at (s ++ other) s other (ts ++ others) ts others (placed_from 0 [] more) refl refl sum (starts-placed 0 [] more ∙ mark))
