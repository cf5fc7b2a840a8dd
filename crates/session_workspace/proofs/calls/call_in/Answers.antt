use Rattle.std.proofs.Common.{inl, inr, refl, rules}
use Rattle.session_workspace.proofs.calls.call_in.Goals as goal

pub returns-in-Ok : goal.returns-in-Ok
returns-in-Ok c = inl c.in-Ok.ensures.says

pub returns-in-Err-Tokens : goal.returns-in-Err-Tokens
returns-in-Err-Tokens c = inr (refl, c.said_in.ensures.tokens (search rules))
