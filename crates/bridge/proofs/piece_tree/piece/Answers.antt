-- The tokens are the piece's, whether or not its last tree is a leaf.
use Rattle.std.proofs.Common.{◌≡◌, ◌∙◌, ap, sym, inl}
use Rattle.std.specs.Prelude.{IfErr, IfOk, IsOkUnless, List, Result, Ok, Err, ◌⊎◌}
use Rattle.tt.specs.Tops.{Top, tokens_of}
use Rattle.tt.specs.Views.{forest}
use Rattle.tt_data.specs.declared.tree.TokenTree.{TokenTree}
use Rattle.tt_data.specs.fault.TtFault.{TtFault}
use Rattle.tt_data.specs.fault.TtFault.TheVariants.{Memory, Tokens}
use Rattle.bridge.specs.Pieces.{piece_of}
use Rattle.bridge.proofs.PieceLemmas.{ends_alone, ends_as_is, room_for_all}
use Rattle.bridge.proofs.piece_tree.piece.Goals as goal
use Rattle.bridge.proofs.piece_tree.piece.Goals.{then-ends_in_leaf, else-ends_in_leaf}

tokens_are : (c : goal.After-whole) → tokens_of (piece_of (forest c.args.view)) ≡ c.if-ends_in_leaf.tokens.items
tokens_are c = elim c.if-ends_in_leaf.branch [
  | then-ends_in_leaf w ↦
      ends_alone (forest c.args.view) c.in_ok-tokens.tokens.items _ (sym c.ends_in_leaf.ensures ∙ w.if-ends_in_leaf.true) c.in_ok-tokens.ensures.ok
      (ap (λ v. v.items) w.tokens-is ∙ w.set_last_alone.ensures)
  | else-ends_in_leaf w ↦
      ends_as_is (forest c.args.view) c.in_ok-tokens.tokens.items (sym c.ends_in_leaf.ensures ∙ w.if-ends_in_leaf.false) c.in_ok-tokens.ensures.ok
      ∙ ap (λ v. v.items) (sym w.tokens-is)
]

that_one : (r : Result Top TtFault) (u : Top) (ts : List TokenTree) → tokens_of u ≡ ts → IfOk r (λ t. (v : Top) → tokens_of v ≡ ts → t ≡ v)
    → IfOk r (λ t. t ≡ u)
that_one (Ok t) u ts are h = h u are
that_one (Err e) u ts are h = tt

memory_alone : (r : Result Top TtFault) → IsOkUnless r Memory → IfErr r (λ e. (e ≡ Memory) ⊎ (e ≡ Tokens))
memory_alone (Ok t) h = tt
memory_alone (Err e) h = inl h

pub returns-clause-ok : goal.returns-clause-ok
returns-clause-ok c = that_one c.whole.result (piece_of (forest c.args.view)) c.if-ends_in_leaf.tokens.items (tokens_are c) c.whole.ensures.ok

pub returns-clause-tokens : goal.returns-clause-tokens
returns-clause-tokens c = room_for_all c.moved_tokens.result _ c.whole.result _ c.moved_tokens.ensures.tokens c.in_ok-tokens.was (c.whole.ensures.memory _ (tokens_are c))

pub returns-clause-faults : goal.returns-clause-faults
returns-clause-faults c = memory_alone c.whole.result (c.whole.ensures.memory _ (tokens_are c))
