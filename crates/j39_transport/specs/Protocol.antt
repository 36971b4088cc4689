-- The numbers of the transport protocol (J1939-21, 5.10); times in microseconds.
use Rattle.std.specs.Prelude.{ℕ}

-- ---- the first byte of a TP.CM frame

-- RTS (5.10.3.1)
abbrev pub request_to_send : ℕ
request_to_send = 16

-- CTS (5.10.3.2)
abbrev pub clear_to_send : ℕ
clear_to_send = 17

-- EndOfMsgACK (5.10.3.3)
abbrev pub acknowledgment : ℕ
acknowledgment = 19

-- Conn_Abort (5.10.3.4)
abbrev pub connection_abort : ℕ
connection_abort = 255

-- BAM (5.10.3.5)
abbrev pub broadcast_announce : ℕ
broadcast_announce = 32

-- ---- its other bytes

-- of an RTS, as the most packets for one CTS: no limit
abbrev pub no_limit : ℕ
no_limit = 0xFF

-- a byte that says nothing, and one that fills up the last packet
abbrev pub filler : ℕ
filler = 0xFF

-- ---- the reasons of an abort (5.10.3.4)

-- a session is open, and no other can be
abbrev pub busy : ℕ
busy = 1

-- memory is wanting
abbrev pub no_resources : ℕ
no_resources = 2

abbrev pub timeout : ℕ
timeout = 3

-- ---- the longest waits of the two ends (5.10.2.4)

-- of a receiver, between two packets
abbrev pub timer_t1 : ℕ
timer_t1 = 750000

-- of a receiver, from a CTS to its first packet
abbrev pub timer_t2 : ℕ
timer_t2 = 1250000

-- of a sender, for an answer to an RTS or to the last granted packet
abbrev pub timer_t3 : ℕ
timer_t3 = 1250000

-- of a sender, for the next CTS after one of 0 packets
abbrev pub timer_t4 : ℕ
timer_t4 = 1050000

-- ---- the times between two frames of a message

-- the longest for who puts it together: of a broadcast (5.13.3), and of a directed message (own)
abbrev pub broadcast_limit : ℕ
broadcast_limit = 750000

abbrev pub directed_limit : ℕ
directed_limit = 1250000

-- the least between those of a broadcast that is sent (5.12.3)
abbrev pub gap : ℕ
gap = 50000
