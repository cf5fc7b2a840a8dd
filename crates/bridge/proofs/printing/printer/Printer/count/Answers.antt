use Rattle.std.proofs.Common.{ap, length, arith}
use Rattle.std.specs.Prelude.{Option}
use Rattle.tt_data.specs.declared.span.Span.{Span}
use Rattle.bridge.specs.Printers.{PrinterState, pending}
use Rattle.bridge.proofs.VisibleCountLemmas.{visible_count}
use Rattle.bridge.proofs.printing.printer.Printer.count.Goals as goal

pub returns-in-Some : goal.returns-in-Some
returns-in-Some c = λ steps has.
    let s = c.args.self.now in
    let one = ap (λ (w : Option Span). length (pending w)) c.in-Some.is in
    let view = c.self.view_is in
    let tokens = ap (λ (s : PrinterState). length s.tokens) view in
    let left_out = ap (λ (s : PrinterState). length s.left_out) view in
    let waiting = ap (λ (s : PrinterState). length (pending s.waiting)) view in
    omega (arith, visible_count s steps has, one, tokens, left_out, waiting, c.len.ensures.len, c.len-2.ensures, c.self.inside.out.left_out.ok.0)

pub returns-in-None : goal.returns-in-None
returns-in-None c = λ steps has.
    let s = c.args.self.now in
    let none = ap (λ (w : Option Span). length (pending w)) c.in-None.is in
    let view = c.self.view_is in
    let tokens = ap (λ (s : PrinterState). length s.tokens) view in
    let left_out = ap (λ (s : PrinterState). length s.left_out) view in
    let waiting = ap (λ (s : PrinterState). length (pending s.waiting)) view in
    omega (arith, visible_count s steps has, none, tokens, left_out, waiting, c.len.ensures.len, c.len-2.ensures, c.self.inside.out.left_out.ok.0)
