-- `text_packet::Packet::write` meets its contract: the two tests decide as the definition's do. Assumes nothing.
use mathlib.Core.Path.{sym, ap, ◌∙◌}
use native.Mathlib.Omega.{arith}
use borrow.Author.Tests.{lt-ltb, le-ltb}
use Rattle.text_packet.specs.Packet.{text_most, text_of}
use Rattle.text_packet.specs.Write.{written, write_of}
use Rattle.text_packet.proofs.Stores.{front_filled}
use Rattle.text_packet.proofs.Texts.{text_most_lem}
use Rattle.text_packet.proofs.Packet.write.Goals as goal

pub returns-then-buffer-lt-TEXT_MOST : goal.returns-then-buffer-lt-TEXT_MOST
unfolding write_of
returns-then-buffer-lt-TEXT_MOST c = rw (lt-ltb _ text_most c.if-buffer-lt-TEXT_MOST.true)

pub returns-then-not-is_packet : goal.returns-then-not-is_packet
unfolding write_of
returns-then-not-is_packet c =
    rw (le-ltb _ text_most c.if-buffer-lt-TEXT_MOST.false, sym c.is_packet.ensures ∙ c.if-not-is_packet.true)

pub returns : goal.returns
unfolding write_of
returns c =
    let a = c.args in
    rw (le-ltb _ text_most c.if-buffer-lt-TEXT_MOST.false, sym c.is_packet.ensures ∙ c.if-not-is_packet.false)
    (rw (c.put_text-filled.ensures.value.0, c.put_text-filled.ensures.buffer_after)
    (ap (written _) (front_filled a.buffer.now (text_of a.self) (omega (arith, text_most_lem a.self)))))
