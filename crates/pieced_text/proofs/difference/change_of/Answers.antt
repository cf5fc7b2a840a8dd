use Rattle.std.proofs.Common.{◌≡◌, ◌-◌, arith, drop, length, take}
use Rattle.pieced_text.proofs.DifferenceLemmas.{back_less, front_less}
use Rattle.pieced_text.proofs.difference.change_of.Goals as goal

pub returns : goal.returns
returns c =
    let front : take c.common_front-front.result c.args.old.now ≡ take c.common_front-front.result c.args.new.now =
    rw (c.as_bytes.ensures.value, c.as_bytes-2.ensures.value) at c.common_front-front.ensures.same in
    let back : drop (length c.args.old.now - c.common_back-back.result) c.args.old.now ≡ drop (length c.args.new.now - c.common_back-back.result) c.args.new.now =
    rw (c.as_bytes-3.ensures.value, c.as_bytes-4.ensures.value) at c.common_back-back.ensures.same in
    record {
      old_start = c.boundary_before-start.ensures.old;
      new_start = c.boundary_before-start.ensures.new;
      old_end = c.boundary_behind-back.ensures.old;
      new_end = c.boundary_behind-back.ensures.new;
      old_order = omega (arith, c.boundary_before-start.ensures.old.0, c.boundary_before-start.ensures.new.0, c.min.ensures, c.common_back-back.ensures.few, c.boundary_behind-back.ensures.near);
      new_order = omega (arith, c.boundary_before-start.ensures.old.0, c.boundary_before-start.ensures.new.0, c.min.ensures, c.common_back-back.ensures.few, c.boundary_behind-back.ensures.near);
      front = front_less c.args.old.now c.args.new.now c.common_front-front.result c.boundary_before-start.result c.boundary_before-start.ensures.near front;
      back =
          back_less c.args.old.now c.args.new.now c.common_back-back.result c.boundary_behind-back.result c.boundary_behind-back.ensures.near
          (omega (arith, c.min.ensures, c.common_back-back.ensures.few)) (omega (arith, c.min.ensures, c.common_back-back.ensures.few)) back;
    }
