-- The groups that the stack itself speaks, whatever a controller measures.
use Rattle.std.specs.Prelude.{◌/◌, ◌%◌, ◌<◌, ℕ}

-- a group of PF below 240 has a destination (J1939-21, 5.2.5)
abbrev pub IsDirectedGroup : ℕ → Type 0
IsDirectedGroup pgn = pgn / 256 % 256 < 240

-- asks for a group (J1939-21, 5.4.2)
abbrev pub request_group : ℕ
request_group = 59904

-- TP.DT: carries a packet of a message (J1939-21, 5.10.4)
abbrev pub transport_data_group : ℕ
transport_data_group = 60160

-- TP.CM: opens, governs and ends a message in packets (J1939-21, 5.10.3)
abbrev pub transport_control_group : ℕ
transport_control_group = 60416

-- tells the NAME at an address, or that it holds none (J1939-81, 4.2.2)
abbrev pub address_claimed_group : ℕ
address_claimed_group = 60928

-- gives a NAME another address (J1939-81, 4.2.3)
abbrev pub commanded_address_group : ℕ
commanded_address_group = 65240
