use Rattle.std.proofs.Common.{◌≡◌, true, sym, ap, ◌∙◌, None, Some, option_map}
use Rattle.tt_data.specs.Lent.{ident_lent, literal_lent}
use Rattle.tt_data.specs.declared.leaf.Ident.{Ident}
use Rattle.cfg_options.specs.Conditions.{is_option_name}
use Rattle.cfg_options.proofs.WordLemmas.{valued, valued_is}
use Rattle.cfg_options.proofs.words.option_in.Goals as goal

pub returns : goal.returns
returns c =
    let n : is_option_name (ident_lent c.in-Some.name) ≡ true = sym c.if-not-is_option_name.ensures in
    ap (λ (i : Ident). valued i.sym c.in-Some-2.value.items) c.to_ident-name-2.ensures
    ∙ sym (valued_is c.args.trees.now (ident_lent c.in-Some.name) c.in-Some.rest (literal_lent c.in-Some-value_of.literal) (Some c.in-Some-2.value.items)
    (sym c.in-Some.ensures) n (sym c.in-Some-value_of.ensures)
    (sym c.in_ok-value.ensures ∙ ap (option_map (λ b. b.items)) c.in-Some-2.is))

pub returns-in_default-2 : goal.returns-in_default-2
returns-in_default-2 c =
    let n : is_option_name (ident_lent c.in-Some.name) ≡ true = sym c.if-not-is_option_name.ensures in
    sym (valued_is c.args.trees.now (ident_lent c.in-Some.name) c.in-Some.rest (literal_lent c.in-Some-value_of.literal) None
    (sym c.in-Some.ensures) n (sym c.in-Some-value_of.ensures)
    (sym c.in_ok-value.ensures ∙ ap (option_map (λ b. b.items)) c.in_default-2.is))
