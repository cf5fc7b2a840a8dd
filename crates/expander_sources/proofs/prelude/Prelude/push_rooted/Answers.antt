use Rattle.std.proofs.Common.{◌≡◌, ℕ, List, ◌∙◌, ap, length, rules, sym, take}
use Rattle.std.proofs.lemmas.List.{length-map}
use Rattle.std.proofs.lemmas.Result.{on_err_weaker}
use Rattle.tt_data.specs.Forest.{Forest}
use Rattle.expander_sources.specs.Imports.{import_piece, import_pieces}
use Rattle.expander_sources.proofs.PushLemmas.{take_pieces}
use Rattle.expander_sources.proofs.prelude.Prelude.push_rooted.Goals as goal

pub returns-then-is_err-clause-err : goal.returns-then-is_err-clause-err
returns-then-is_err-clause-err c =
    let pushed : List Forest = c.push_picks-pushed.new.self in
    let len : c.len-before.result ≡ length c.self.inside.imports.items = search rules in
    let before : c.len-before.result ≡ length c.args.self.now =
    len ∙ sym (length-map c.self.inside.imports.items import_piece) ∙ ap length c.self.view_is in
    let cut : import_pieces c.truncate.new.self.items ≡ take (length c.args.self.now) pushed =
    ap import_pieces c.truncate.ensures.items ∙ take_pieces c.len-before.result c.self-2.inside.imports.items
    ∙ ap (take c.len-before.result) c.self-2.view_is ∙ ap (λ (n : ℕ). take n pushed) before in
    on_err_weaker c.push_picks-pushed.result (λ (h : take (length c.args.self.now) pushed ≡ c.args.self.now). cut ∙ h) c.push_picks-pushed.ensures.err
