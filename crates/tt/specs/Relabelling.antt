-- Trees with their anchors replaced.
use Rattle.std.specs.Prelude.{◌≡◌, ℕ, List, [], ◌∷◌, ◌++◌, nat_eq, if◌then◌else◌}
use Rattle.std.specs.Fn.{Mut, Called, AlwaysReturns}
use Rattle.std.specs.List.{list_any}
use Rattle.tt_data.specs.declared.delimiter.Delimiter.{Delimiter}
use Rattle.tt_data.specs.declared.tree.TokenTree.{TokenTree}
use Rattle.tt_data.specs.declared.tree.TokenTree.TheVariants as token
use Rattle.tt_data.specs.Forest.{map_spans, preorder}
use Rattle.tt_data.specs.Spans.{anchor_with, delimiter_with, span_of}
use Rattle.tt.specs.Tops.{Top}

-- what a finite map makes of an anchor: the replacement in its entry; without an entry it stays
abbrev pub renamed : List (ℕ × ℕ) → ℕ → ℕ
renamed [] a = a
renamed (e ∷ more) a = if nat_eq e.0 a then e.1 else renamed more a

-- a tree with h applied to the anchor of each span, those of its own brackets too
abbrev pub relabelled : (ℕ → ℕ) → Top → Top
relabelled h t = record { delimiter = delimiter_with (anchor_with h) t.delimiter; inner = map_spans (anchor_with h) t.inner }

-- the anchors of a group's two brackets
abbrev pub anchors_of_brackets : Delimiter → List ℕ
anchors_of_brackets d = d.open_span.anchor ∷ d.close_span.anchor ∷ []

-- the anchors of tokens that follow one another
abbrev pub anchors_in : List TokenTree → List ℕ
anchors_in [] = []
anchors_in (token.Leaf l ∷ more) = (span_of l).anchor ∷ anchors_in more
anchors_in (token.Subtree s ∷ more) = s.delimiter.open_span.anchor ∷ s.delimiter.close_span.anchor ∷ anchors_in more

-- the anchors of a tree: of its tokens, a group's before those inside, then of its own brackets
abbrev pub anchors_of : Top → List ℕ
anchors_of t = anchors_in (preorder t.inner) ++ anchors_of_brackets t.delimiter

-- one more anchor, at the end, unless it is there already
abbrev pub with_anchor : List ℕ → ℕ → List ℕ
with_anchor met a = if list_any (nat_eq a) met then met else met ++ a ∷ []

-- more anchors, one after the other
abbrev pub met_after : List ℕ → List ℕ → List ℕ
met_after met [] = met
met_after met (a ∷ more) = met_after (with_anchor met a) more

-- each anchor once, in the order of first occurrence
abbrev pub by_first_use : List ℕ → List ℕ
by_first_use = met_after []

-- the anchors of entries
abbrev pub asked_about : List (ℕ × ℕ) → List ℕ
asked_about [] = []
asked_about (e ∷ more) = e.0 ∷ asked_about more

module _ {F : Type 0} (g : Mut F (ℕ × Unit {0}) ℕ) where
  -- asked about the entry's anchor, the callback answers the other one, and is f' afterwards
  abbrev pub Answers : F → ℕ × ℕ → F → Type 0
  Answers f e f' = Called g f (e.0, tt) e.1 f'

  -- each call from f on answers what h makes of the anchor
  abbrev pub AnswersBy : (ℕ → ℕ) → F → Type 0
  AnswersBy h = AlwaysReturns g (λ a r. r ≡ h a.0)
