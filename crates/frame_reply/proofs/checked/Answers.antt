-- `frame_reply::checked` meets its contract. Assumes nothing.
use Rattle.frame_reply.proofs.Parts.{checked_bytes}
use Rattle.frame_reply.proofs.checked.Goals as goal

pub returns : goal.returns
returns g c =
    rw (c.copy_from_slice.ensures.after, c.copy_from_slice-2.ensures.after, c.to_le_bytes.ensures)
    (checked_bytes _ _ c.checksum.ensures)
