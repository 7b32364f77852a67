pub mod Rows
pub mod Calls
pub mod Invariant
pub mod Seats
pub mod Seating
pub mod Held
pub mod HeldTable
pub mod HeldView
pub mod Openings
pub mod View
-- what contracts cite, passed on from one place
pub use Calls.{answered, collect_refusal, collected, failed_row, fs_released, is_exhausted, is_full, join_refusal, joined, joined_on, open_refusal, opened, rejoin_refusal, rejoined, released_row, reopen_refusal, reopened, status_refusal, still_waits, wait_refusal, waiting_on}
pub use Held.{HasKeys, held_of, held_open_on, held_row, held_tokens_of, is_held_on, joined_key, token_in, tokens_in, with_key, without_held}
pub use Invariant.{IsOnOpen, IsSound, NumbersAreAllocated, is_waiting_on}
pub use Rows.{WaitRows, is_open_on, joined_row, no_waits, open_on, same_kind, token_of, tokens_of, wait_of, waiters_in, waiters_of, with_wait, with_waiter, without_token, without_wait}
pub use Seats.{HasSameWait, IsSeat, among_keys, frees, its_wait, key_of, next_by, next_key, row_at, row_in, seat_at, seat_of, sits_at, waits_in, walkers_at, with_seat, with_status, without_seat}
pub use declared.held.HeldToken.{HeldToken}
pub use declared.seats.Seat.{Seat}
