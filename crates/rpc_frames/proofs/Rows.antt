-- Worked rows: what streams begin with.
use Rattle.std.proofs.Common.{◌≡◌, codes, refl}
use Rattle.rpc_frames.specs.Frames.{begin_of}
use Rattle.rpc_frames.specs.declared.begin.Begin.TheVariants.{Partial, Broken, Whole}

pub whole : begin_of (codes "Content-Length: 2\r\n\r\n{}x") ≡ Whole 21 2
whole = refl

pub second_field : begin_of (codes "Content-Type: a\r\ncontent-LENGTH:  2\r\n\r\n{}") ≡ Whole 39 2
second_field = refl

pub part_of_a_body : begin_of (codes "Content-Length: 2\r\n\r\n{") ≡ Partial
part_of_a_body = refl

pub part_of_a_head : begin_of (codes "Content-Length: x\r\n\r") ≡ Partial
part_of_a_head = refl

pub no_field : begin_of (codes "Content-Type: a\r\n\r\n") ≡ Broken
no_field = refl

-- the name is not at the begin of a line
pub other_field : begin_of (codes "X-Content-Length: 2\r\n\r\n{}") ≡ Broken
other_field = refl

pub no_number : begin_of (codes "Content-Length: \r\n\r\n") ≡ Broken
no_number = refl

pub bad_number : begin_of (codes "Content-Length: 2x\r\n\r\n{}") ≡ Broken
bad_number = refl

pub largest : begin_of (codes "Content-Length: 268435456\r\n\r\n") ≡ Partial
largest = refl

pub too_large : begin_of (codes "Content-Length: 268435457\r\n\r\n") ≡ Broken
too_large = refl
