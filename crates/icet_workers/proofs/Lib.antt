pub mod EachDone
