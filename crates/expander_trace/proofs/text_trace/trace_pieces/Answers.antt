use Rattle.std.proofs.Common.{◌≡◌, ◌∙◌, ◌++◌, ap, false, map, rules, sym, true}
use Rattle.expander_model.specs.Definitions.{definition_of}
use Rattle.expander_model.specs.Meaning.{with_definition}
use Rattle.expander_model.specs.Pieces.{cut}
use Rattle.expander_trace.specs.Given.{trace_in}
use Rattle.expander_trace.specs.Steps.{rewrites}
use Rattle.expander_trace.specs.Texts.{by_trees, traces_after}
use Rattle.expander_trace.proofs.TextLemmas.{trace_done, trace_ends, trace_goes}
use Rattle.expander_trace.proofs.text_trace.trace_pieces.Goals as goal

pub loop-piece-init : goal.loop-piece-init
loop-piece-init g c = record {
  read = c.requires.read;
  edition = c.requires.edition;
  left = λ before has. (
    before,
    has,
    ap (λ ts. map trace_in ts ++ map by_trees (traces_after (rewrites (g.G.FragmentGrammar.answer c.args.by.now.grammar.now) c.args.by.now.edition) c.args.by.now.dialect.now c.args.by.now.depth c.args.at c.args.limits before (cut c.copied-rest.result))) c.new-traces.ensures.items
        ∙ ap (λ f. map by_trees (traces_after (rewrites (g.G.FragmentGrammar.answer c.args.by.now.grammar.now) c.args.by.now.edition) c.args.by.now.dialect.now c.args.by.now.depth c.args.at c.args.limits before (cut f))) c.copied-rest.ensures,
  );
}

pub returns-then-last-clause-traces : goal.returns-then-last-clause-traces
returns-then-last-clause-traces g c = λ before has.
    let l = c.loop-piece.invariant.left before has in
    let says : c.is_last-last.result ≡ true = search rules in
    trace_ends (g.G.FragmentGrammar.answer c.args.by.now.grammar.now) c.args.by.now.edition c.args.by.now.dialect.now c.args.by.now.depth c.args.at
    c.loop-piece.left l.0 c.in-Some.piece (cut c.loop-piece.rest) (cut c.next_piece.new.rest) c.in_ok-trace.trace _ (map trace_in c.add_listed.new.traces.items) _
    c.in-Some.ensures.0 (c.in_ok-trace.ensures.trace l.0 l.1) c.in_ok-add_listed.ensures (sym c.is_last-last.ensures ∙ says) l.2

pub loop-piece-preserved : goal.loop-piece-preserved
loop-piece-preserved g c = record {
  read = c.in_ok-define.ensures.read;
  edition = c.in_ok-define.ensures.edition ∙ c.loop-piece.invariant.edition;
  left = λ before has.
      let l = c.loop-piece.invariant.left before has in
      let says : c.is_last-last.result ≡ false = search rules in (
        with_definition (definition_of c.in-Some.piece) l.0,
        c.in_ok-define.ensures.met l.0 l.1,
        trace_goes (g.G.FragmentGrammar.answer c.args.by.now.grammar.now) c.args.by.now.edition c.args.by.now.dialect.now c.args.by.now.depth c.args.at
            c.loop-piece.left l.0 c.in-Some.piece (cut c.loop-piece.rest) (cut c.next_piece.new.rest) c.in_ok-trace.trace _ (map trace_in c.add_listed.new.traces.items) _
            c.in-Some.ensures.0 (c.in_ok-trace.ensures.trace l.0 l.1) c.in_ok-add_listed.ensures (sym c.is_last-last.ensures ∙ says) l.2,
      );
}

pub returns-clause-traces : goal.returns-clause-traces
returns-clause-traces g c = λ before has.
    let l = c.loop-piece.invariant.left before has in
    trace_done (g.G.FragmentGrammar.answer c.args.by.now.grammar.now) c.args.by.now.edition c.args.by.now.dialect.now c.args.by.now.depth c.args.at
    c.loop-piece.left l.0 (cut c.loop-piece.rest) (map trace_in c.loop-piece.traces.items) _ (ap cut c.in_default.ensures) l.2
