-- `frame_reply::Writer::byte` meets its contract. Assumes nothing.
use native.Mathlib.Omega.{arith}
use Rattle.frame_reply.proofs.Steps.{scaled, stuff_two, stuff_one}
use borrow.Author.Rules.{rules}
use Rattle.frame_reply.proofs.Writer.byte.Goals as goal

pub overflow_mul-v : goal.overflow_mul-v
overflow_mul-v c = record {
  fits = omega (
    arith,
    scaled c.args.b c.args.self.scale
        (search rules) (search rules),
  );
}

pub overflow_add-first : goal.overflow_add-first
overflow_add-first c = record {
  fits = omega (
    arith,
    scaled c.args.b
        c.args.self.scale (search rules) (search rules),
  );
}

pub returns-then-self-le1 : goal.returns-then-self-le1
returns-then-self-le1 c = record {
  by_index = λ l. rw (
    c.put-then-self-le1.ensures,
    c.put.ensures,
  ) (stuff_two _ _ _ _ _ c.if-self-le1.true l);
  scale_bound_2 = (omega arith, omega arith);
}

pub returns : goal.returns
returns c = record {
  by_index = λ l. rw c.put.ensures (stuff_one _ _ _ _ _
      c.if-self-le1.false l);
  scale_bound_2 = (omega arith, omega arith);
}
