pub mod InNumbers
pub mod Steps
pub mod MeetingsFound
pub mod Front
