-- `text_packet::Packet::is_packet` meets its contract. Assumes nothing.
use borrow.Author.Tests.{lt-leb, le-leb}
use Rattle.text_packet.specs.Packet.{is_packet}
use Rattle.text_packet.proofs.Packet.is_packet.Goals as goal

pub returns-then-self-ge-LETTER_LEAST : goal.returns-then-self-ge-LETTER_LEAST
unfolding is_packet
returns-then-self-ge-LETTER_LEAST c = rw (le-leb 0x21 _ c.if-self-ge-LETTER_LEAST.true)

pub returns-else-self-ge-LETTER_LEAST : goal.returns-else-self-ge-LETTER_LEAST
unfolding is_packet
returns-else-self-ge-LETTER_LEAST c = rw (lt-leb 0x21 _ c.if-self-ge-LETTER_LEAST.false)
