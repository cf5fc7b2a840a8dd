use Rattle.std.proofs.Common.{◌∙◌, ◌++◌, List, ap, append-nil, arith, sym}
use Rattle.std.specs.Prelude.{option_map}
use Rattle.std.proofs.lemmas.Result.{on_ok_weaker}
use Rattle.tt_data.specs.declared.span.Span.{Span}
use Rattle.cfg_options.specs.Options.{options_of}
use Rattle.filgordd.proofs.WarningLemmas.{a_body, next_spans, no_body, no_levels}
use Rattle.filgordd.proofs.warned.+warned.Goals as goal

pub push_list-loop-piece-preserved : goal.push_list-loop-piece-preserved
push_list-loop-piece-preserved t c =
    next_spans (option_map options_of c.args.cfg.now) c.args.levels c.loop-piece.names.keys
    c.push_here.new.names.keys c.loop-piece.rest c.in-Some.piece c.next_piece.new.rest
    c.loop-piece.spans.items _ c.push_body.new.spans.items
    (rw c.in-Some.is at c.next_piece.ensures).0
    c.in_ok-push_here.ensures.spans c.in_ok-push_here.ensures.names c.in_ok-push_body.ensures
    ∙ c.loop-piece.invariant

pub push_body-returns-in-Some : goal.push_body-returns-in-Some
push_body-returns-in-Some t c =
    on_ok_weaker c.push_list.result
    (λ e. e ∙ ap (λ (xs : List Span). c.args.spans.now.items ++ xs)
    (sym (a_body (option_map options_of c.args.cfg.now) c.args.levels c.args.piece.now c.in-Some.list
    (λ z. omega (arith, z, c.if-levels-eq0.false)) (sym c.body_of.ensures ∙ c.in-Some.is))))
    c.push_list.ensures

pub push_body-returns-in-None : goal.push_body-returns-in-None
push_body-returns-in-None t c =
    sym (append-nil c.args.spans.now.items)
    ∙ ap (λ (xs : List Span). c.args.spans.now.items ++ xs)
    (sym (no_body (option_map options_of c.args.cfg.now) c.args.levels c.args.piece.now
    (sym c.body_of.ensures ∙ c.in-None.is)))

pub push_body-returns-then-levels-eq0 : goal.push_body-returns-then-levels-eq0
push_body-returns-then-levels-eq0 t c =
    sym (append-nil c.args.spans.now.items)
    ∙ ap (λ (xs : List Span). c.args.spans.now.items ++ xs)
    (sym (no_levels (option_map options_of c.args.cfg.now) c.args.levels c.args.piece.now
    c.if-levels-eq0.true))
