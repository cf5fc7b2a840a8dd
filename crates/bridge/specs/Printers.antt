-- What a printer has, and what is still to be printed: the text of all that was added.
use Rattle.std.specs.Prelude.{◌≡◌, ℕ, ◌+◌, List, [], ◌∷◌, ◌++◌, Option, Some, None, codes, length}
use Rattle.tt_data.specs.Walk.{Step, at_leaf}
use Rattle.tt_data.specs.declared.leaf.Leaf.TheVariants as as_leaf
use Rattle.tt_data.specs.declared.leaf.Spacing.TheVariants.{Joint}
use Rattle.tt_data.specs.declared.span.Span.{Span}
use Rattle.bridge.specs.declared.printing.spacing.Edge.{Edge}
use Rattle.bridge.specs.Edges.{edge_of, gap_between}
use Rattle.bridge.specs.Printing.{Print, PrintedToken, left_out_from, print_of, printed, spans_of, text_from, visible}
use Rattle.bridge.specs.Text.{char}

-- what is printed so far, and what the next visible token depends on
pub record PrinterState : Type 0 where
  pub text : List ℕ
  pub tokens : List Span
  pub left_out : List ℕ
  -- how many visible groups are open
  pub depth : ℕ
  -- the token printed last
  pub last : Option Edge
  -- the span of a pending `Joint` quote: the next visible token decides whether it has a spelling
  pub waiting : Option Span

-- nothing was added so far
abbrev pub nothing_put : PrinterState
nothing_put = record { text = []; tokens = []; left_out = []; depth = 0; last = None; waiting = None }

-- a `Joint` quote
abbrev pub quote_at : Span → Step
quote_at span = at_leaf (as_leaf.Punct (record { char = char "'"; spacing = Joint; span = span }))

-- the pending quote
abbrev pub pending : Option Span → List Step
pending None = []
pending (Some span) = quote_at span ∷ []

-- the text of tokens after the one printed last
abbrev pub continued : ℕ → Option Edge → List PrintedToken → List ℕ
continued depth None tokens = text_from depth tokens
continued depth (Some last) [] = codes "\n"
continued depth (Some last) (b ∷ more) = gap_between depth last (edge_of b.step) ++ text_from depth (b ∷ more)

-- what is printed, and what these visible events print, is all that is printed
pub record Prints (s : PrinterState) (rest : List Step) (all : Print) : Type 0 where
  pub text : s.text ++ continued s.depth s.last (printed rest) ≡ all.text
  pub tokens : s.tokens ++ spans_of (printed rest) ≡ all.tokens
  pub left_out : s.left_out ++ left_out_from (length s.tokens + length s.left_out) rest ≡ all.left_out

-- the same statement with the pending quote before these events
abbrev pub Continues : PrinterState → List Step → Print → Type 0
Continues s rest all = Prints s (pending s.waiting ++ rest) all

-- exactly these events were added so far: whatever follows, all is printed as one list
abbrev pub HasPut : PrinterState → List Step → Type 0
HasPut s steps = (more : List Step) → Continues s (visible more) (print_of (steps ++ more))
