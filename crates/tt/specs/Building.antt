-- A tree under construction: the trees before each open group, and those inside the innermost one.
use Rattle.std.specs.Prelude.{ℕ, ◌+◌, ◌-◌, ◌^◌, ◌<◌, List, [], ◌∷◌, length, refl, Option, Some, None, option_map, option_and_then, Bool, true, false, nat_le, nat_lt, nat_eq, if◌then◌else◌}
use Rattle.std.specs.Coded.{Coded, code_by, coded_list, coded_option, coded_ℕ, coded×}
use Rattle.tt_data.specs.declared.delimiter.Delimiter.{Delimiter}
use Rattle.tt_data.specs.declared.delimiter.DelimiterKind.{DelimiterKind}
use Rattle.tt_data.specs.declared.delimiter.DelimiterKind.TheVariants.{Invisible}
use Rattle.tt_data.specs.declared.leaf.Leaf.{Leaf}
use Rattle.tt_data.specs.declared.span.Span.{Span}
use Rattle.tt_data.specs.contracts.delimiter.Delimiter as delimiter_row
use Rattle.tt_data.specs.contracts.delimiter.DelimiterKind as kind_row
use Rattle.tt_data.specs.contracts.span.Span as span_row
use Rattle.tt_data.specs.Forest.{Forest, empty, leaf, group, joined, size, front, back}
use Rattle.tt_data.specs.Coded.{forest_code}
use Rattle.tt.specs.Tops.{Top}
pub use Rattle.token_bytes.specs.TokenLists.{alone}

-- a group that is still open, with the trees before it in its list
pub record Opened : Type 0 where
  pub kind : DelimiterKind
  pub open_span : Span
  pub before : Forest

-- the top's delimiter, the open groups (innermost first) and the trees so far in the innermost one
pub record Building : Type 0 where
  pub top : Delimiter
  pub groups : List Opened
  pub here : Forest

-- the tree that is built where no group is open
abbrev pub built : Building → Top
built b = record { delimiter = b.top; inner = b.here }

-- a builder: its tree, and the index of the token of the group closed last (the top's is 0)
pub record Builder : Type 0 where
  pub tree : Building
  pub last_closed : Option ℕ

-- the number of tokens of the open groups' heads, and of the trees before each
abbrev pub count_in : List Opened → ℕ
count_in [] = 0
count_in (o ∷ outer) = 1 + size o.before + count_in outer

-- the number of all tokens below the top
abbrev pub count_of : Building → ℕ
count_of b = size b.here + count_in b.groups

-- one leaf is added after the last tree of the innermost list
abbrev pub pushed : Building → Leaf → Building
pushed b l = record b { here = joined b.here (leaf l empty) }

-- these trees are added after the last tree of the innermost list
abbrev pub extended : Building → Forest → Building
extended b f = record b { here = joined b.here f }

-- leaves in a row
abbrev pub leaves : List Leaf → Forest
leaves [] = empty
leaves (l ∷ more) = leaf l (leaves more)

-- the very last token is `Alone` if it is a punct, be it inside a last group
abbrev pub last_alone : Forest → Forest
last_alone empty = empty
last_alone (leaf l empty) = leaf (alone l) empty
last_alone (leaf l rest) = leaf l (last_alone rest)
last_alone (group d inner empty) = group d (last_alone inner) empty
last_alone (group d inner rest) = group d inner (last_alone rest)

-- one more group is open, with nothing inside it yet
abbrev pub opened : Building → DelimiterKind → Span → Building
opened b kind open_span = record b { groups = record { kind = kind; open_span = open_span; before = b.here } ∷ b.groups; here = empty }

-- the first of these open groups is closed: it comes after the trees before it
abbrev pub closed_in : List Opened → Building → Span → Building
closed_in [] b close_span = b
closed_in (o ∷ outer) b close_span =
    record b {
      groups = outer;
      here = joined o.before (group (record { open_span = o.open_span; close_span = close_span; kind = o.kind }) b.here empty);
    }

-- the innermost open group is closed; unchanged if none is open
abbrev pub closed : Building → Span → Building
closed b close_span = closed_in b.groups b close_span

-- the kind of the innermost open group, and the span of its opening
abbrev pub innermost_group : List Opened → Option (DelimiterKind × Span)
innermost_group [] = None
innermost_group (o ∷ outer) = Some (o.kind, o.open_span)

-- a tree has at most so many tokens below its top
abbrev pub most_tokens : ℕ
most_tokens = 2 ^ 32 - 1

-- a restore point: a number of tokens below the top, and a number of open groups
pub record Point : Type 0 where
  pub tokens : ℕ
  pub depth : ℕ

-- the point that a builder is at
abbrev pub point_of : Building → Point
point_of b = record { tokens = count_of b; depth = length b.groups }

-- the list in which exactly so many groups are open, with those groups
abbrev pub list_in : ℕ → List Opened → Forest → Option (List Opened × Forest)
list_in depth [] here = if nat_eq depth 0 then Some ([], here) else None
list_in depth (o ∷ outer) here = if nat_eq depth (1 + length outer) then Some (o ∷ outer, here) else list_in depth outer o.before

-- a list cut back so that there are so many tokens in all, if a tree ends there
abbrev pub cut_to : ℕ → List Opened → Forest → Option (List Opened × Forest)
cut_to tokens groups here =
    let n = tokens - count_in groups in
    if nat_le (count_in groups) tokens
    then if nat_eq (size (front n here)) n then Some (groups, front n here) else None
    else None

-- the list in which as many groups are open as at a point, cut back to as many tokens
abbrev pub cut_in : Point → List Opened → Forest → Option (List Opened × Forest)
cut_in p groups here = option_and_then (λ l. cut_to p.tokens l.0 l.1) (list_in p.depth groups here)

-- the tree at a point, if no closed group lies across it and so many groups are open there
abbrev pub cut_back : Point → Building → Option Building
cut_back p b = option_map (λ g. record { top = b.top; groups = g.0; here = g.1 }) (cut_in p b.groups b.here)

-- a tree reached from another by adding leaves, opening groups, and closing groups opened since
pub data Reached (b : Building) : Building → Type 0 where
  itself : Reached b b
  by_push : (t : Building) (l : Leaf) → Reached b t → Reached b (pushed t l)
  by_open : (t : Building) (kind : DelimiterKind) (span : Span) → Reached b t → Reached b (opened t kind span)
  by_close : (t : Building) (span : Span) → length b.groups < length t.groups → Reached b t → Reached b (closed t span)

-- whether brackets of this kind have no text
abbrev pub is_invisible : DelimiterKind → Bool
is_invisible Invisible = true
is_invisible _ = false

-- trees, with the contents of the first in its place if it is an invisible group
abbrev pub unwrapped : Forest → Forest
unwrapped (group d inner rest) = if is_invisible d.kind then joined inner rest else group d inner rest
unwrapped f = f

-- the tree that begins after so many tokens is unwrapped so
abbrev pub unwrapped_after : ℕ → Forest → Forest
unwrapped_after n f = joined (front n f) (unwrapped (back n f))

-- the tree at an index is unwrapped so, in the innermost list or before an open group
abbrev pub unwrapped_in : ℕ → List Opened → Forest → List Opened × Forest
unwrapped_in at [] here = ([], unwrapped_after (at - 1) here)
unwrapped_in at (o ∷ outer) here =
    if nat_lt (count_in (o ∷ outer)) at
    then (o ∷ outer, unwrapped_after (at - 1 - count_in (o ∷ outer)) here)
    else (
      record { kind = o.kind; open_span = o.open_span; before = (unwrapped_in at outer o.before).1 } ∷ (unwrapped_in at outer o.before).0,
      here,
    )

-- the group at this index is unwrapped so, if there is one
abbrev pub unwrapped_at : Option ℕ → Building → Building
unwrapped_at None b = b
unwrapped_at (Some at) b =
    record {
      top = b.top;
      groups = (unwrapped_in at b.groups b.here).0;
      here = (unwrapped_in at b.groups b.here).1;
    }

-- an open group is coded as its kind, its span and the trees before it
abbrev pub opened_code : Coded Opened
opened_code =
    code_by (DelimiterKind × (Span × Forest)) (coded× kind_row.the_row.coded (coded× span_row.the_row.coded forest_code))
    (λ o. (o.kind, (o.open_span, o.before))) (λ p. record { kind = p.0; open_span = p.1.0; before = p.1.1 }) (λ _. refl)

-- a tree under construction is coded as its parts
abbrev pub building_code : Coded Building
building_code =
    code_by (Delimiter × (List Opened × Forest)) (coded× delimiter_row.the_row.coded (coded× (coded_list opened_code) forest_code))
    (λ b. (b.top, (b.groups, b.here))) (λ p. record { top = p.0; groups = p.1.0; here = p.1.1 }) (λ _. refl)

-- a builder is coded as its two parts
abbrev pub builder_code : Coded Builder
builder_code =
    code_by (Building × Option ℕ) (coded× building_code (coded_option coded_ℕ)) (λ b. (b.tree, b.last_closed))
    (λ p. record { tree = p.0; last_closed = p.1 }) (λ _. refl)

-- a point is coded as its two numbers
abbrev pub point_code : Coded Point
point_code = code_by (ℕ × ℕ) (coded× coded_ℕ coded_ℕ) (λ p. (p.tokens, p.depth)) (λ p. record { tokens = p.0; depth = p.1 }) (λ _. refl)
