-- Each visible token is printed, omitted or pending.
use Rattle.std.proofs.Common.{◌≡◌, ℕ, ◌+◌, List, [], ◌∷◌, ◌++◌, length, refl, ap, arith}
use Rattle.std.specs.Prelude.{Option, Some, None}
use Rattle.std.proofs.lemmas.List.{append-nil, length-append, length-map}
use Rattle.tt_data.specs.Walk.{Step}
use Rattle.bridge.specs.Printers.{HasPut, PrinterState, Prints, pending}
use Rattle.bridge.specs.Printing.{left_out_from, print_of, printed, spans_of, spelled, step_span, unspelled, visible}
use Rattle.bridge.specs.Spelling.{spelling}

one_way : (n : ℕ) (s : Step) (text : Option (List ℕ)) → length (spelled s text) + length (unspelled n text) ≡ 1
one_way n s None = refl
one_way n s (Some text) = refl

each_once : (n : ℕ) (ss : List Step) → length (printed ss) + length (left_out_from n ss) ≡ length ss
each_once n [] = refl
each_once n (s ∷ more) =
    let text = spelling s more in
    omega (arith, one_way n s text, each_once (n + 1) more, length-append (spelled s text) (printed more), length-append (unspelled n text) (left_out_from (n + 1) more))

-- all visible tokens are those that are printed so far, those omitted and the pending quote
pub visible_count : (s : PrinterState) (steps : List Step) → HasPut s steps →
    (length s.tokens + length s.left_out) + length (pending s.waiting) ≡ length (visible steps)
visible_count s steps has =
    let rest = pending s.waiting ++ [] in
    let n = length s.tokens + length s.left_out in
    let all = visible (steps ++ []) in
    let puts : Prints s rest (print_of (steps ++ [])) = has [] in
    let tokens = ap length puts.tokens in
    let left_out = ap length puts.left_out in
    let steps_same = ap (λ (l : List Step). length (visible l)) (append-nil steps) in
    let rest_same = ap (λ (l : List Step). length l) (append-nil (pending s.waiting)) in
    omega (
      arith,
      tokens,
      left_out,
      steps_same,
      rest_same,
      each_once n rest,
      each_once 0 all,
      length-append s.tokens (spans_of (printed rest)),
      length-append s.left_out (left_out_from n rest),
      length-map (printed rest) (λ a. step_span a.step),
      length-map (printed all) (λ a. step_span a.step),
    )
