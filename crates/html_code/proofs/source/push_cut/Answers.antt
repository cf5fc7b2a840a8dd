use Rattle.std.proofs.Common.{◌≡◌, ◌∙◌, ◌++◌, ◌-◌, List, [], ℕ, ap, drop, string_bytes, sym, take, arith}
use Rattle.std.proofs.lemmas.List.{append-nil}
use Rattle.html_code.proofs.PartLemmas.{three_more}
use Rattle.html_code.specs.Parts.{html_of_part}
use Rattle.html_code.specs.Tokens.{blank_part}
use Rattle.html_code.proofs.source.push_cut.Goals as goal

pub returns : goal.returns
returns c =
    let before : List ℕ = html_of_part (blank_part (take c.args.at c.args.text.now)) in
    let after : List ℕ = html_of_part (blank_part (drop c.args.at c.args.text.now)) in
    let zero_less : c.args.at - 0 ≡ c.args.at = omega arith in
    let begin : c.range.result.now ≡ take c.args.at c.args.text.now =
    c.range.ensures.value ∙ ap (λ n. take n c.args.text.now) zero_less in
    let first : string_bytes c.push_blank.new.page ≡ string_bytes c.args.page.now ++ before =
    c.in_ok-push_blank.ensures ∙ ap (λ (w : List ℕ). string_bytes c.args.page.now ++ html_of_part (blank_part w)) begin in
    let last : string_bytes c.push_blank-2.new.page ≡ string_bytes c.push_str.new.self ++ (after ++ []) =
    c.in_ok-push_blank-2.ensures
    ∙ ap (λ (w : List ℕ). string_bytes c.push_str.new.self ++ html_of_part (blank_part w)) c.range_from.ensures.value
    ∙ ap (λ (xs : List ℕ). string_bytes c.push_str.new.self ++ xs) (sym (append-nil after)) in
    three_more _ _ _ _ _ _ _ first c.in_ok-push_str.ensures.bytes last
