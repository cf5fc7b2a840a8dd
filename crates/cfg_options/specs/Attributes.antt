-- What is found out about attributes: whether they keep a piece, and the first that is not read.
use Rattle.std.specs.Prelude.{ℕ, suc, ◌+◌, ◌<◌, Bool, true, false, ◌&&◌, List, [], ◌∷◌, Option}
use Rattle.std.specs.Prelude.{Some, None, codes, if◌then◌else◌}
use Rattle.tt_data.specs.Forest.{Forest, empty, size}
use Rattle.tt_data.specs.declared.span.Span.{Span}
use Rattle.small_grammar.specs.Text.{is_empty}
use Rattle.cfg_options.specs.Conditions.{or_else}
use Rattle.cfg_options.specs.Conditions.{attribute_keeps, cut_at_commas, is_kept, predicate_value}
use Rattle.cfg_options.specs.Misread.{misread, misread_within, span_of_name}
use Rattle.cfg_options.specs.Options.{options_of}
use Rattle.cfg_options.specs.Conditions.{after_part, first_part}
use Rattle.cfg_options.specs.Strings.{string_text}
use Rattle.cfg_options.specs.declared.attributes.Finding.{Finding}
use Rattle.cfg_options.specs.declared.attributes.Waiting.{Waiting}
use Rattle.cfg_options.specs.declared.attributes.Next.{Next}
use Rattle.cfg_options.specs.declared.attributes.Next.TheVariants.{More, Last}
use Rattle.cfg_options.specs.declared.options.CfgOptions.{CfgOptions}

-- of no attribute
abbrev pub nothing_found : Finding
nothing_found = record { keeps = true; misread = None }

-- of one attribute after another
abbrev pub and_also : Finding → Finding → Finding
and_also a b = record { keeps = a.keeps && b.keeps; misread = or_else a.misread b.misread }

-- about a `cfg` with this value of its predicate, whose name is at `span`
abbrev pub found_of_cfg : Option Bool → Option Span → Finding
found_of_cfg (Some keeps) span = record { keeps = keeps; misread = None }
found_of_cfg None span = record { keeps = true; misread = span }

-- about a `cfg_attr` with this value of its predicate, and the attributes that it stands for, of
-- `rest`
abbrev pub found_of_cfg_attr : Option Bool → Option Span → Forest → Finding × Option Forest
found_of_cfg_attr (Some true) span rest = (nothing_found, Some rest)
found_of_cfg_attr (Some false) span rest = (nothing_found, None)
found_of_cfg_attr None span rest = (record { keeps = true; misread = span }, None)

-- about an attribute without a list
abbrev pub found_of_other : Forest → Finding
found_of_other a = record {
  keeps = true;
  misread = or_else (span_of_name (codes "cfg") a) (span_of_name (codes "cfg_attr") a);
}

module _ (options : CfgOptions) where
  -- the value of the first predicate of a list
  abbrev pub first_value : Forest → Option Bool
  first_value f =
      if is_empty f then None else predicate_value (options_of options) string_text (first_part f)

  -- the value of the only predicate of a list
  abbrev pub only_value : Forest → Option Bool
  only_value f = if is_empty (after_part f) then first_value f else None

  -- whether an attribute keeps what it stands at, by what is in its brackets
  abbrev pub keeps_at : Forest → Bool
  keeps_at a = attribute_keeps (options_of options) string_text (suc (size a)) a

  -- the first that is not read, of the attribute and those it stands for
  abbrev pub misread_at : Forest → Option Span
  misread_at a = misread_within (options_of options) string_text (suc (size a)) a

  -- what is found out about an attribute
  abbrev pub found_at : Forest → Finding
  found_at a = record { keeps = keeps_at a; misread = misread_at a }

  -- about attributes one after another
  abbrev pub found_among : List Forest → Finding
  found_among [] = nothing_found
  found_among (a ∷ more) = and_also (found_at a) (found_among more)

  -- about those of a list
  abbrev pub found_in : Forest → Finding
  found_in f = found_among (cut_at_commas f empty)

  -- about those of lists that wait, the last one first
  abbrev pub found_in_all : List Forest → Finding
  found_in_all [] = nothing_found
  found_in_all (f ∷ fs) = and_also (found_in_all fs) (found_in f)

  -- about all that wait
  abbrev pub found_waiting : Waiting → Finding
  found_waiting w = and_also (found_in w.list) (found_in_all w.around.items)

  -- about the attributes of a list, if there is one
  abbrev pub found_inside : Option Forest → Finding
  found_inside None = nothing_found
  found_inside (Some f) = found_in f

  -- about the outer attributes of a piece
  abbrev pub found_before : Forest → Finding
  found_before piece = record {
    keeps = is_kept (options_of options) string_text piece;
    misread = misread (options_of options) string_text piece;
  }

-- all that a step leads to
abbrev pub found_next : CfgOptions → Next → Finding
found_next options (More found w) = and_also found (found_waiting options w)
found_next options (Last found) = found

-- the tokens that are left in lists, and one for each list
abbrev pub tokens_in : List Forest → ℕ
tokens_in [] = 0
tokens_in (f ∷ fs) = 1 + size f + tokens_in fs

-- the tokens that wait, and one for each list but the innermost
abbrev pub tokens_waiting : Waiting → ℕ
tokens_waiting w = size w.list + tokens_in w.around.items

-- a step leads to all, or to less that waits
abbrev pub IsLater : ℕ → Next → Type 0
IsLater n (More found w) = tokens_waiting w < n
IsLater n (Last found) = Unit {0}
